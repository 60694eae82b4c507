-- Going over the entries with their numbers is going over the numbers.
use Rattle.std.proofs.Common.{◌≡◌, ℕ, suc, ◌+◌, ◌<◌, Bool, ◌&&◌, ◌||◌, List, [], ◌∷◌, length, get_or, nat_eq, refl, ap, ◌∙◌, arith, rules, tests}
use Rattle.std.proofs.lemmas.Iterator.{YieldsList-from_slice}
use Rattle.std.proofs.lemmas.Iterator.Consumers.{YieldsList-from_enumerate}
use Rattle.std.proofs.lemmas.Iterator.Search.{all_from_yields_List}
use Rattle.std.specs.List.{list_all, enumerate_from, range_with_len}
use Rattle.mesh.specs.Stored.{answered, no_twin}
use Rattle.meshes.proofs.fitting.FittingSet.twins_stand.Goals as goal

numbered : (test : ℕ → ℕ → Bool) (entry : ℕ → ℕ) (k : ℕ) (twins : List ℕ) → ((i : ℕ) → i < length twins → get_or twins i 0 ≡ entry (k + i))
    → list_all (λ p. test p.0 p.1) (enumerate_from k twins) ≡ list_all (λ h. test h (entry h)) (range_with_len k (length twins))
numbered test entry k [] f = refl
numbered test entry k (g ∷ twins) f =
    ap (λ x. test k x && list_all (λ p. test p.0 p.1) (enumerate_from (k + 1) twins)) (f 0 (omega arith) ∙ ap entry (omega arith))
    ∙ ap (λ b. test k (entry k) && b) (numbered test entry (k + 1) twins (λ i l. f (suc i) (omega arith) ∙ ap entry (omega arith)))

pub returns : goal.returns
returns c =
    let t : List ℕ = c.args.twins.now in
    let test : ℕ → ℕ → Bool = λ h g. nat_eq g no_twin || answered c.args.self.now.triangles.now t h g in
    all_from_yields_List (λ p. test p.0 p.1) _ _ c.all.result c.all.ensures.ran (YieldsList-from_enumerate (YieldsList-from_slice t cc) cc) (λ x b q k. search (rules, tests))
    ∙ numbered test (λ h. get_or t h 0) 0 t (λ i l. ap (λ h. get_or t h 0) (omega arith))
