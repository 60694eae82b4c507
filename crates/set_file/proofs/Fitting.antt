-- Lists that keep the limits and the rules of places and corners still do after a reading. Assumes nothing.
use Rattle.std.proofs.Common.{IfOk, ◌≡◌, ℕ, ◌+◌, ◌<◌, Bool, true, false, ◌&&◌, ◌||◌, eqb, ltb, List, [], ◌∷◌, ◌++◌, length, get_or, ℤ, pos, negsuc, Some, None, Ok, Err, Option, Result, sym, ap, ◌∙◌, ⊎_elim, arith}
use Rattle.std.proofs.lemmas.List.{length_push}
use Rattle.std.proofs.lemmas.Result.{IfOk-at_ok}
use Rattle.std.proofs.lemmas.Grind.{common_steps}
use Rattle.std.proofs.lemmas.Bool.Decides.{nat_tests}
use Rattle.std.proofs.lemmas.Bool.{cond_both, false≢true, and_from, ltb-true}
use Rattle.mesh.specs.declared.Triangle.{Triangle}
use Rattle.mesh.specs.Model.{in_limits}
use Rattle.std.specs.Option.{ok_or}
use Rattle.mesh.specs.Stored.{near, sound, set_fits}
use Rattle.mesh.proofs.Every.{every_push, every_weaker}
use Rattle.set_file.specs.declared.word.Place.{Place}
use Rattle.set_file.specs.declared.word.WordFault.{WordFault}
use Rattle.set_file.specs.declared.word.WordFault.TheVariants.{Range}
use Rattle.set_file.specs.declared.line.Entry.{Entry}
use Rattle.set_file.specs.declared.line.Entry.TheVariants.{Vertex, Face}
use Rattle.set_file.specs.declared.line.LineFault.{LineFault}
use Rattle.set_file.specs.Parts.{words}
use Rattle.set_file.specs.Numbers.{number_of, converted, passing, earlier, from_zero}
use Rattle.set_file.specs.Tokens.{is_comment}
use Rattle.set_file.specs.Lines.{Trio, three_of, and_then, place, triple, made, vertex_of, face_of, keyed_of, entered, by_words}
use Rattle.set_file.specs.declared.file.FileFault.{FileFault}
use Rattle.set_file.specs.Files.{Lists, Reading, Reads, with_entry}
use Rattle.set_file.specs.Laws.{Lead, FitsKept}
use Rattle.set_file.proofs.Meaning.{line_by_line}

then_good : {T U : Type 0} (r : Result T WordFault) (k : T → Result U LineFault) (P : T → Type 0) (Q : U → Type 0) → IfOk r P → ((x : T) → P x → IfOk (k x) Q) → IfOk (and_then r k) Q
then_good (Ok x) k P Q h g = g x h
then_good (Err e) k P Q h g = tt

made_good : {T : Type 0} (r : Result T LineFault) (k : T → Result Entry LineFault) (P : T → Type 0) (Q : Entry → Type 0) → IfOk r P → ((x : T) → P x → IfOk (k x) Q) → IfOk (made r k) Q
made_good (Ok x) k P Q h g = g x h
made_good (Err f) k P Q h g = tt

-- what good words give comes of numbers that pass the test
module _ {T : Type 0} (test : ℤ → Bool) (value : ℤ → T) (P : T → Type 0) (each : (v : ℤ) → test v ≡ true → P (value v)) where
  word_good : (o : Option ℤ) (at : Place) → IfOk (converted (passing test value) o at) P
  word_good None at = tt
  word_good (Some v) at = cond_both (test v) (Some (value v)) None (λ (o : Option T). IfOk (ok_or o (Range at)) P) (each v) (λ _. tt)

  three_good : (n : ℕ) (o : Option Trio) → IfOk (triple (λ word at. converted (passing test value) (number_of word) at) n o) (λ t. P t.0 × P t.1 × P t.2)
  three_good n None = tt
  three_good n (Some w) =
      then_good _ _ P _ (word_good (number_of w.0) (place n 2)) (λ x p.
      then_good _ _ P _ (word_good (number_of w.1) (place n 3)) (λ y q.
      then_good _ _ P _ (word_good (number_of w.2) (place n 4)) (λ z r. (p, q, r))))

below : (points : ℕ) (v : ℤ) → earlier points v ≡ true → ltb (from_zero v) points ≡ true
below points (pos n) e = grind (arith, common_steps, nat_tests)
below points (negsuc n) e = absurd (false≢true e)

-- what an entry keeps, after so many points and triangles
abbrev Good : ℕ → ℕ → Option Entry → Type 0
Good points triangles None = Unit {0}
Good points triangles (Some (Vertex p)) = (near p ≡ true) × (points < 65536)
Good points triangles (Some (Face t)) = (sound points t ≡ true) × (triangles < 65536)

module _ (n points triangles : ℕ) where
  -- the entry, if there is one, keeps it
  abbrev Keeps : Result Entry LineFault → Type 0
  Keeps r = IfOk r (λ e. Good points triangles (Some e))

  vertex_good : (ws : List (List ℕ)) → Keeps (vertex_of ws n points)
  vertex_good ws =
      made_good _ _ (λ t. (in_limits t.0 ≡ true) × (in_limits t.1 ≡ true) × (in_limits t.2 ≡ true)) _ (three_good in_limits (λ v. v) (λ v. in_limits v ≡ true) (λ v t. t) n (three_of ws)) (λ t g.
      cond_both (ltb points 65536) _ _ Keeps
      (λ f. (and_from (in_limits t.0) (in_limits t.1 && in_limits t.2) g.0 (and_from (in_limits t.1) (in_limits t.2) g.1 g.2), ltb-true points 65536 f))
      (λ _. tt))

  -- three earlier points, no two of them the same
  corners_sound : (a b c : ℕ) → (ltb a points ≡ true) × (ltb b points ≡ true) × (ltb c points ≡ true) → (eqb a b || (eqb b c || eqb c a)) ≡ false → sound points (record { a = a; b = b; c = c }) ≡ true
  corners_sound a b c g d = grind (arith, common_steps, nat_tests)

  face_good : (ws : List (List ℕ)) → Keeps (face_of ws n points triangles)
  face_good ws =
      made_good _ _ (λ t. (ltb t.0 points ≡ true) × (ltb t.1 points ≡ true) × (ltb t.2 points ≡ true)) _ (three_good (earlier points) from_zero (λ c. ltb c points ≡ true) (below points) n (three_of ws)) (λ t g.
      cond_both (eqb t.0 t.1 || (eqb t.1 t.2 || eqb t.2 t.0)) _ _ Keeps (λ _. tt) (λ d.
      cond_both (ltb triangles 65536) _ _ Keeps (λ f. (corners_sound t.0 t.1 t.2 g d, ltb-true triangles 65536 f)) (λ _. tt)))

  key_good : (w : List ℕ) (ws : List (List ℕ)) → Keeps (keyed_of w ws n points triangles)
  key_good w ws =
      cond_both (eqb (length w) 1) _ _ Keeps
      (λ _. cond_both (eqb (get_or w 0 0) 118) _ _ Keeps (λ _. vertex_good ws) (λ _. cond_both (eqb (get_or w 0 0) 102) _ _ Keeps (λ _. face_good ws) (λ _. tt)))
      (λ _. tt)

  entered_good : (r : Result Entry LineFault) → Keeps r → IfOk (entered r) (Good points triangles)
  entered_good (Ok e) h = h
  entered_good (Err f) h = tt

  words_good : (ws : List (List ℕ)) → IfOk (by_words ws n points triangles) (Good points triangles)
  words_good [] = tt
  words_good (w ∷ ws) = cond_both (is_comment w) _ _ (λ r. IfOk r (Good points triangles)) (λ _. tt) (λ _. entered_good _ (key_good w ws))

abbrev pub Fit : Lists → Type 0
Fit s = set_fits s.points s.triangles ≡ true

-- one point more does no harm to a triangle
sound_more : (points : ℕ) (t : Triangle) → sound points t ≡ true → sound (points + 1) t ≡ true
sound_more points t e = grind (arith, common_steps, nat_tests)

entry_fits : (e : Option Entry) (s : Lists) → Good (length s.points) (length s.triangles) e → Fit s → Fit (with_entry e s)
unfolding set_fits
entry_fits None s g f = f
entry_fits (Some (Vertex p)) s g f =
    let P = length s.points in
    let grown : length (s.points ++ p ∷ []) ≡ P + 1 = length_push s.points p in
    let kept = every_push near s.points p in
    let still = every_weaker (sound P) (sound (P + 1)) (sound_more P) s.triangles in
    grind (arith, common_steps, nat_tests)
entry_fits (Some (Face t)) s g f =
    let P = length s.points in
    let grown = length_push s.triangles t in
    let kept = every_push (sound P) s.triangles t in
    grind (arith, common_steps, nat_tests)

led_fits : (ls : List (List ℕ)) (n : ℕ) (s t : Lists) → Lead ls n s t → Fit s → Fit t
led_fits [] n s t p f = ap (λ (x : Lists). set_fits x.points x.triangles) p ∙ f
led_fits (l ∷ ls) n s t p f =
    led_fits ls (n + 1) (with_entry p.0 s) t p.2
    (entry_fits p.0 s (IfOk-at_ok (Good (length s.points) (length s.triangles)) p.1 (words_good n (length s.points) (length s.triangles) (words l))) f)

pub fits_kept : FitsKept
fits_kept m limit bytes s f =
    ⊎_elim
    (λ h. ap (λ (r : Reading). set_fits r.held.points r.held.triangles) h.1 ∙ f)
    (λ h. ⊎_elim (λ d. led_fits _ 1 s _ d.led f) (⊎_elim (λ d. led_fits _ 1 s _ d.led f) (λ d. led_fits _ 1 s _ d.led f)) h.1)
    (line_by_line m limit bytes s)

-- the same of a call
pub read_fits : (limit : ℕ) (bytes : List ℕ) (before after : Lists) (r : Result (Unit {0}) FileFault) → Reads limit bytes before after r → Fit before → Fit after
read_fits limit bytes before after r done f =
    ap (λ (x : Reading). set_fits x.held.points x.held.triangles) (sym done.result) ∙ fits_kept done.memory limit bytes before f
