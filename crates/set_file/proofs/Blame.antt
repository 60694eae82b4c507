-- A line's fault is true of the line: its number, its line, and the word that it names. Assumes nothing.
use Rattle.std.proofs.Common.{◌≡◌, ℕ, Bool, true, false, not, ◌||◌, eqb, ltb, List, [], ◌∷◌, length, get_or, ℤ, is_some, Some, None, Ok, Err, codes, Option, Result, refl, ap, ◌∙◌, inl, inr, arith, IfErr}
use Rattle.std.proofs.lemmas.Bool.Decides.{nat_tests}
use Rattle.std.proofs.lemmas.Bool.{cond_both, both_ways, ltb-false}
use Rattle.std.proofs.lemmas.Result.{IfErr-at_err}
use Rattle.std.specs.Option.{ok_or}
use Rattle.mesh.specs.Model.{in_limits}
use Rattle.set_file.specs.declared.word.WordFault.{WordFault}
use Rattle.set_file.specs.declared.word.WordFault.TheVariants.{Form, Range}
use Rattle.set_file.specs.declared.line.Entry.{Entry}
use Rattle.set_file.specs.declared.line.LineFault.{LineFault}
use Rattle.set_file.specs.declared.line.LineFault.TheVariants.{First, Count, Word, Same, Full, Memory}
use Rattle.set_file.specs.declared.file.FileFault.TheVariants.{Line}
use Rattle.set_file.specs.declared.file.Refusal.{Refusal}
use Rattle.set_file.specs.Parts.{words}
use Rattle.set_file.specs.Numbers.{number_of, converted, passing, earlier, from_zero}
use Rattle.set_file.specs.Tokens.{is_comment}
use Rattle.set_file.specs.Lines.{and_then, place, three_of, triple, made, vertex_of, face_of, by_key, keyed_of, entered, by_words, entry_of}
use Rattle.set_file.specs.Files.{short}
use Rattle.set_file.specs.Places.{numbered}
use Rattle.set_file.specs.Refusals.{refusal_of}
use Rattle.set_file.specs.Laws.{Begins, OutOfRange, Says, TrueFaults, ToldFaults}

one_byte : (key : List ℕ) (k : ℕ) → eqb (length key) 1 ≡ true → eqb (get_or key 0 0) k ≡ true → key ≡ k ∷ []
one_byte [] k h e = absurd (grind (arith, nat_tests))
one_byte (b ∷ []) k h e = let same : b ≡ k = grind (arith, nat_tests) in ap (λ (x : ℕ). x ∷ []) same
one_byte (b ∷ c ∷ bs) k h e = absurd (grind (arith, nat_tests))

module _ (line : List ℕ) (n points triangles : ℕ) where
  abbrev So : LineFault → Type 0
  So f = Says line n points triangles f

  -- the fault, if there is one, is true
  abbrev Sound : {T : Type 0} → Result T LineFault → Type 0
  Sound r = IfErr r So

  -- the same of a word's fault
  abbrev SoundWord : {T : Type 0} → Result T WordFault → Type 0
  SoundWord r = IfErr r (λ e. So (Word e))

  then_so : {T U : Type 0} (r : Result T WordFault) (k : T → Result U LineFault) → SoundWord r → ((x : T) → Sound (k x)) → Sound (and_then r k)
  then_so (Ok x) k h g = g x
  then_so (Err e) k h g = h

  made_so : {T : Type 0} (r : Result T LineFault) (k : T → Result Entry LineFault) → Sound r → ((x : T) → Sound (k x)) → Sound (made r k)
  made_so (Ok x) k h g = g x
  made_so (Err e) k h g = h

  entered_so : (r : Result Entry LineFault) → Sound r → Sound (entered r)
  entered_so (Ok e) h = tt
  entered_so (Err f) h = h

  -- words that have to pass a test, on a line that begins with a key
  module _ {T : Type 0} (test : ℤ → Bool) (value : ℤ → T) (out : (v : ℤ) → test v ≡ false → OutOfRange line points v) (key : List ℕ) where
    word_so : (w : ℕ) (word : List ℕ) → numbered (words line) w ≡ Some word → (o : Option ℤ) → number_of word ≡ o → SoundWord (converted (passing test value) o (place n w))
    word_so w word s None q = (word, record { on_line = refl; in_line = s }, q)
    word_so w word s (Some v) q =
        cond_both (test v) (Some (value v)) None (λ (o : Option T). SoundWord (ok_or o (Range (place n w))))
        (λ _. tt) (λ t. (word, record { on_line = refl; in_line = s }, v, q, out v t))

    three_so : (ws : List (List ℕ)) → words line ≡ key ∷ ws → Sound (triple (λ word at. converted (passing test value) (number_of word) at) n (three_of ws))
    three_so [] these = (refl, λ e. omega (arith, ap length these))
    three_so (a ∷ []) these = (refl, λ e. omega (arith, ap length these))
    three_so (a ∷ b ∷ []) these = (refl, λ e. omega (arith, ap length these))
    three_so (a ∷ b ∷ c ∷ []) these =
        let at_word : (w : ℕ) → numbered (words line) w ≡ numbered (key ∷ a ∷ b ∷ c ∷ []) w = λ w. ap (λ (ws : List (List ℕ)). numbered ws w) these in
        then_so _ _ (word_so 2 a (at_word 2) (number_of a) refl) (λ x.
        then_so _ _ (word_so 3 b (at_word 3) (number_of b) refl) (λ y.
        then_so _ _ (word_so 4 c (at_word 4) (number_of c) refl) (λ z. tt)))
    three_so (a ∷ b ∷ c ∷ d ∷ ws) these = (refl, λ e. omega (arith, ap length these))

  -- a line that begins with a key
  module _ (key : List ℕ) (ws : List (List ℕ)) (these : words line ≡ key ∷ ws) where
    begins : (k : List ℕ) → key ≡ k → Begins line k
    begins k e = ap (λ (l : List (List ℕ)). numbered l 1) these ∙ ap Some e

    vertex_so : key ≡ codes "v" → Sound (vertex_of ws n points)
    vertex_so k =
        made_so _ _ (three_so in_limits (λ v. v) (λ v t. inl (begins (codes "v") k, t)) key ws these) (λ t.
        cond_both (ltb points 65536) _ _ Sound (λ _. tt) (λ f. (refl, inl (ltb-false points 65536 f))))

    face_so : key ≡ codes "f" → Sound (face_of ws n points triangles)
    face_so k =
        made_so _ _ (three_so (earlier points) from_zero (λ v t. inr (begins (codes "f") k, t)) key ws these) (λ t.
        cond_both (eqb t.0 t.1 || (eqb t.1 t.2 || eqb t.2 t.0)) _ _ Sound (λ _. refl) (λ _.
        cond_both (ltb triangles 65536) _ _ Sound (λ _. tt) (λ f. (refl, inr (ltb-false triangles 65536 f)))))

    first_so : (key ≡ codes "v" → ⊥) → (key ≡ codes "f" → ⊥) → So (First n)
    first_so v f = (refl, key, ap (λ (l : List (List ℕ)). numbered l 1) these, v, f)

    key_so : Sound (keyed_of key ws n points triangles)
    key_so =
        cond_both (eqb (length key) 1) (by_key (get_or key 0 0) ws n points triangles) _ Sound
        (λ one.
        cond_both (eqb (get_or key 0 0) 118) (vertex_of ws n points) _ Sound (λ v. vertex_so (one_byte key 118 one v)) (λ v.
        cond_both (eqb (get_or key 0 0) 102) (face_of ws n points triangles) _ Sound (λ f. face_so (one_byte key 102 one f)) (λ f.
        first_so (λ e. both_ways _ v (ap (λ (l : List ℕ). eqb (get_or l 0 0) 118) e)) (λ e. both_ways _ f (ap (λ (l : List ℕ). eqb (get_or l 0 0) 102) e)))))
        (λ many. first_so (λ e. both_ways _ many (ap (λ (l : List ℕ). eqb (length l) 1) e)) (λ e. both_ways _ many (ap (λ (l : List ℕ). eqb (length l) 1) e)))

  words_so : (ws : List (List ℕ)) → words line ≡ ws → Sound (by_words ws n points triangles)
  words_so [] these = tt
  words_so (key ∷ ws) these = cond_both (is_comment key) _ _ Sound (λ _. tt) (λ _. entered_so _ (key_so key ws these))

  told : (f : LineFault) → So f → (r : Refusal) × (refusal_of (Line f) ≡ Some r) × (r.at.line ≡ n)
  told (First k) h = (_, refl, h.0)
  told (Count k) h = (_, refl, h.0)
  told (Word (Form at)) h = (_, refl, h.1.on_line)
  told (Word (Range at)) h = (_, refl, h.1.on_line)
  told (Same k) h = (_, refl, h)
  told (Full k) h = (_, refl, h.0)
  told (Memory k) h = absurd h

pub true_faults : TrueFaults
true_faults line n points triangles f h = IfErr-at_err (Says line n points triangles) h (words_so line n points triangles (words line) refl)

pub told_faults : ToldFaults
told_faults line n points triangles f h = told line n points triangles f (true_faults line n points triangles f h)

-- no fault of a line is want of memory
pub not_short : (line : List ℕ) (n points triangles : ℕ) (f : LineFault) → entry_of line n points triangles ≡ Err f → short (Err (Line f)) ≡ true → ⊥
not_short line n points triangles f h wants =
    let r = told_faults line n points triangles f h in
    both_ways _ (ap (λ (o : Option Refusal). not (is_some o)) r.1) wants
