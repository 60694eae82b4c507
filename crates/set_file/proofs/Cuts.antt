-- Laws of pieces: how a line is cut off a file, and a word off a line. Assumes nothing.
use Rattle.std.proofs.Common.{◌≡◌, ℕ, ◌+◌, ◌<◌, ◌≤◌, Bool, true, false, not, List, [], ◌∷◌, length, drop, refl, sym, ap, ◌∙◌, subst, ⊎_elim, arith, Option, Some, None, eqb, eqb-true, MatchOption, drop-drop}
use Rattle.std.proofs.lemmas.Grind.{common_steps}
use Rattle.std.proofs.lemmas.Bool.Decides.{nat_tests}
use Rattle.std.proofs.lemmas.Bool.{eqb-false, cond-true, cases_Bool}
use Rattle.std.proofs.lemmas.List.{take_rest}
use Rattle.std.proofs.lemmas.List.Sums.{prefix_len-le-length}
use Rattle.std.specs.List.{position_or_len, position, before_first, after_first}
use Rattle.std.specs.Option.{unwrap_or, UnwrapsOrElse}
use Rattle.std.specs.Slice.{IsGetRangeResult}
use Rattle.std.specs.Iterator.{YieldsFirstBy, MakesProgress, item_count}
use Rattle.std.specs.Bool.{then_some, ⊤}
use denote.Ref.{Bor}
use Rattle.set_file.specs.Parts.{onto, pieces, filled, ends, blank, lines, words}

-- where `position` finds none, all bytes come before
pub first_or_all : (p : ℕ → Bool) (bs : List ℕ) → unwrap_or (position p bs) (length bs) ≡ position_or_len p bs
first_or_all p bs = grind (arith, common_steps, nat_tests, prefix_len-le-length (λ x. not (p x)) bs)

abbrev pub except : (ℕ → Bool) → ℕ → Bool
except p b = not (p b)

-- the first piece runs to the first mark, and the others are those of what follows the mark
pub first_piece : (p : ℕ → Bool) (b : ℕ) (bs : List ℕ) → pieces p (b ∷ bs) ≡ before_first p (b ∷ bs) ∷ pieces p (after_first p (b ∷ bs))
first_piece p b [] = grind (arith, common_steps, nat_tests)
first_piece p b (c ∷ cs) = let h = first_piece p c cs in grind (arith, common_steps, nat_tests)

-- a line is cut off what is not empty
pub cut_line : (bytes : List ℕ) → 0 < length bytes → lines bytes ≡ before_first ends bytes ∷ lines (after_first ends bytes)
cut_line [] h = absurd (omega arith)
cut_line (x ∷ bytes) h = first_piece ends x bytes

-- what is left from the first byte on that passes: past one that does not, and at one that does
past : (p : ℕ → Bool) (b : ℕ) (bs : List ℕ) → p b ≡ false → drop (position_or_len p (b ∷ bs)) (b ∷ bs) ≡ drop (position_or_len p bs) bs
past p b bs e = grind (arith, common_steps, nat_tests)

at : (p : ℕ → Bool) (b : ℕ) (bs : List ℕ) → p b ≡ true → drop (position_or_len p (b ∷ bs)) (b ∷ bs) ≡ b ∷ bs
at p b bs e = grind (arith, common_steps, nat_tests)

-- what is left is empty, or begins with a byte that passes
abbrev pub Starts : (ℕ → Bool) → List ℕ → Type 0
Starts p [] = Unit {0}
Starts p (b ∷ bs) = p b ≡ true

starts : (p : ℕ → Bool) (bs : List ℕ) → Starts p (drop (position_or_len p bs) bs)
starts p [] = tt
starts p (b ∷ bs) =
    ⊎_elim
    (λ e. subst (Starts p) (sym (at p b bs e)) e)
    (λ e. subst (Starts p) (sym (past p b bs e)) (starts p bs))
    (cases_Bool (p b))

-- marks at the front make no word
pub filled_skip : (p : ℕ → Bool) (bs : List ℕ) → filled (pieces p bs) ≡ filled (pieces p (drop (position_or_len (except p) bs) bs))
filled_skip p [] = refl
filled_skip p (b ∷ bs) =
    ⊎_elim
    (λ e. ap filled (cond-true _ _ _ e) ∙ filled_skip p bs ∙ ap (λ l. filled (pieces p l)) (sym (past (except p) b bs (ap not e))))
    (λ e. ap (λ l. filled (pieces p l)) (sym (at (except p) b bs (ap not e))))
    (cases_Bool (p b))

-- nor does the one that ends a word
filled_tail : (p : ℕ → Bool) (bs : List ℕ) → Starts p bs → filled (pieces p (drop 1 bs)) ≡ filled (pieces p bs)
filled_tail p [] h = refl
filled_tail p (b ∷ bs) h = grind (arith, common_steps, nat_tests)

filled_some : (w : List ℕ) (ws : List (List ℕ)) → 0 < length w → filled (w ∷ ws) ≡ w ∷ filled ws
filled_some [] ws h = absurd (omega arith)
filled_some (b ∷ w) ws h = refl

-- what follows the first mark is what is left from it on, without it
after_mark : (p : ℕ → Bool) (bs : List ℕ) → after_first p bs ≡ drop 1 (drop (position_or_len p bs) bs)
after_mark p bs = sym (drop-drop 1 (position_or_len p bs) bs)

-- a body that begins with a byte of a word, cut after its first word
first_word : (body : List ℕ) → 0 < length (before_first blank body) → words body ≡ before_first blank body ∷ words (drop (position_or_len blank body) body)
first_word [] h = absurd (omega arith)
first_word (b ∷ bs) h =
    let body : List ℕ = b ∷ bs in
    let rest : List ℕ = drop (position_or_len blank body) body in
    ap filled (first_piece blank b bs)
    ∙ filled_some (before_first blank body) _ h
    ∙ ap (λ l. before_first blank body ∷ l) (ap (λ l. filled (pieces blank l)) (after_mark blank body) ∙ filled_tail blank rest (starts blank body))

-- a body that begins with a byte of a word has one
no_body : (body : List ℕ) → Starts (except blank) body → length (before_first blank body) ≡ 0 → body ≡ []
no_body [] h e = refl
no_body (b ∷ bs) h e = absurd (grind (arith, common_steps, nat_tests))

-- a line cut into a word and the rest
module _ (line body word rest : List ℕ) (b : body ≡ drop (position_or_len (except blank) line) line) (w : word ≡ before_first blank body) (r : rest ≡ drop (position_or_len blank body) body) where
  words_body : words line ≡ words body
  words_body = filled_skip blank line ∙ ap words (sym b)

  pub no_word : length word ≡ 0 → (words line ≡ []) × (words rest ≡ [])
  no_word e =
      let none : body ≡ [] = no_body body (subst (Starts (except blank)) (sym b) (starts (except blank) line)) (ap length (sym w) ∙ e) in
      (words_body ∙ ap words none, ap words r ∙ ap (λ l. words (drop (position_or_len blank l) l)) none)

  pub some_word : 0 < length word → words line ≡ word ∷ words rest
  some_word h = words_body ∙ first_word body (subst (λ l. 0 < length l) w h) ∙ (λ i. sym w i ∷ words (sym r i))

  -- the word is given, if it has a byte
  pub given : (all : List (List ℕ)) (w : Bor (List ℕ)) (o : Option (Bor (List ℕ))) (empty : Bool) → words line ≡ all → w.now ≡ word → empty ≡ eqb (length word) 0 → o ≡ then_some (not empty) w → MatchOption o ((all ≡ []) × (words rest ≡ [])) (λ x. all ≡ x.now ∷ words rest)
  given all w o true a e h p =
      let none = no_word (eqb-true (length word) 0 (sym h)) in
      subst (λ (r : Option (Bor (List ℕ))). MatchOption r ((all ≡ []) × (words rest ≡ [])) (λ x. all ≡ x.now ∷ words rest)) (sym p) (sym a ∙ none.0, none.1)
  given all w o false a e h p =
      let some = some_word (let k : length word ≡ 0 → ⊥ = eqb-false (length word) 0 (sym h) in omega (arith, k)) in
      subst (λ (r : Option (Bor (List ℕ))). MatchOption r ((all ≡ []) × (words rest ≡ [])) (λ x. all ≡ x.now ∷ words rest)) (sym p) (sym a ∙ some ∙ ap (λ l. l ∷ words rest) (sym e))

-- an iterator that gives the first of what is left comes nearer its end
pub nearer : {S A B : Type 0} (view : A → B) (rest : S → List B) (s : S) (r : Option A) (t : S) → YieldsFirstBy view rest s r t → MakesProgress (λ _. ⊤) (item_count rest) s r t
nearer view rest s None t h = record { on = λ _. tt; keeps = tt; rests = λ _. tt }
nearer view rest s (Some x) t h = record { on = λ _. (tt, tt, omega (arith, ap length h)); keeps = tt; rests = λ _. tt }

-- the lines after a line are those of what follows its LF
pub line_step : (bytes line after rest : List ℕ) → 0 < length bytes → line ≡ before_first ends bytes → after ≡ drop (position_or_len ends bytes) bytes → rest ≡ drop 1 after → lines bytes ≡ line ∷ lines rest
line_step bytes line after rest h l a r = cut_line bytes h ∙ (λ i. sym l i ∷ lines (sym (r ∙ ap (drop 1) a ∙ sym (after_mark ends bytes)) i))

no_rest : (after : List ℕ) → length after < 1 → [] ≡ drop 1 after
no_rest after h = grind (arith, common_steps)

-- what follows the first byte, or nothing
pub rest_of : (after : List ℕ) (r : Option (Bor (List ℕ))) (d : Bor (List ℕ)) → IsGetRangeResult after 1 (length after) r → UnwrapsOrElse r (λ x. x.now ≡ []) d → d.now ≡ drop 1 after
rest_of after None d h u = u ∙ no_rest after (⊎_elim (λ k. omega arith) (λ k. omega arith) h.0)
rest_of after (Some x) d h u = ap (λ (y : Bor (List ℕ)). y.now) u ∙ h.0.2 ∙ take_rest after 1

onto_few : (b : ℕ) (ls : List (List ℕ)) (n : ℕ) → length ls ≤ n → length (onto b ls) ≤ n + 1
onto_few b [] n h = omega arith
onto_few b (w ∷ ws) n h = omega arith

-- there are no more lines than bytes
pub few_pieces : (p : ℕ → Bool) (bs : List ℕ) → length (pieces p bs) ≤ length bs
few_pieces p [] = omega arith
few_pieces p (b ∷ bs) = let h = few_pieces p bs in let k = onto_few b (pieces p bs) (length bs) h in grind (arith, common_steps, nat_tests)
