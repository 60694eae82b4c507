-- A reading, line by line: what the lines so far have done, and what the next one does. Assumes nothing.
use Rattle.std.proofs.Common.{◌≡◌, ℕ, ◌+◌, ◌≤◌, true, List, ◌∷◌, length, Some, None, Ok, Err, Option, Result, sym, refl, ap, ◌∙◌, add_assoc, zero-add, one-add}
use Rattle.std.proofs.lemmas.Bool.{cond-true, le-leb, true≢false}
use Rattle.set_file.specs.declared.line.Entry.{Entry}
use Rattle.set_file.specs.declared.line.LineFault.{LineFault}
use Rattle.set_file.specs.declared.line.LineFault.TheVariants.{Memory}
use Rattle.set_file.specs.declared.file.FileFault.{FileFault}
use Rattle.set_file.specs.declared.file.FileFault.TheVariants.{Line}
use Rattle.set_file.specs.Parts.{lines}
use Rattle.set_file.specs.Files.{Lists, MemoryFor, all, only, stopped, with_entry, one_less, spend, or_short, enter, entry_at, read_lines, reading, Reads, short}

-- how many pushes a line takes
abbrev pub cost : Option Entry → ℕ
cost None = 0
cost (Some e) = 1

pub spend_all : (e : Option Entry) → spend e all ≡ Some all
spend_all None = refl
spend_all (Some e) = refl

spend_only : (e : Option Entry) (k : ℕ) → spend e (only (cost e + k)) ≡ Some (only k)
spend_only None k = ap (λ n. Some (only n)) (zero-add k)
spend_only (Some e) k = ap (λ n. one_less (only n)) (one-add k)

module _ (m : MemoryFor) (line : List ℕ) (ls : List (List ℕ)) (n : ℕ) (s : Lists) where
  entered : (r : Result (Option Entry) LineFault) → entry_at line n s ≡ r → read_lines m (line ∷ ls) n s ≡ enter r m n s (λ t j. read_lines j ls (n + 1) t)
  entered r h = ap (λ o. enter o m n s (λ t j. read_lines j ls (n + 1) t)) h

  -- a good line
  pub next_line : (k : MemoryFor) (e : Option Entry) → entry_at line n s ≡ Ok e → spend e m ≡ Some k → read_lines m (line ∷ ls) n s ≡ read_lines k ls (n + 1) (with_entry e s)
  next_line k e h p = entered (Ok e) h ∙ ap (λ o. or_short o n s (λ j. read_lines j ls (n + 1) (with_entry e s))) p

  -- a line that found no memory
  pub no_memory : (e : Option Entry) → entry_at line n s ≡ Ok e → spend e m ≡ None → read_lines m (line ∷ ls) n s ≡ stopped s (Line (Memory n))
  no_memory e h p = entered (Ok e) h ∙ ap (λ o. or_short o n s (λ j. read_lines j ls (n + 1) (with_entry e s))) p

-- The lines before `rest`, of which the first is line n, took the lists from `before` to `held`:
-- what is left gives the whole, with memory for all and with memory for some.
pub record Sofar (whole rest : List (List ℕ)) (n : ℕ) (before held : Lists) : Type 0 where
  pub pushed : ℕ
  pub limited : (k : ℕ) → read_lines (only (pushed + k)) whole 1 before ≡ read_lines (only k) rest n held
  pub unlimited : read_lines all whole 1 before ≡ read_lines all rest n held

pub at_start : (whole rest : List (List ℕ)) (n : ℕ) (before : Lists) → rest ≡ whole → n ≡ 1 → Sofar whole rest n before before
at_start whole rest n before e h = record {
  pushed = 0;
  limited = λ k. ap (λ j. read_lines (only j) whole 1 before) (zero-add k) ∙ (λ i. read_lines (only k) (sym e i) (sym h i) before);
  unlimited = λ i. read_lines all (sym e i) (sym h i) before;
}

module _ (whole rest : List (List ℕ)) (n : ℕ) (before held : Lists) (line : List ℕ) (after : List (List ℕ)) (so : Sofar whole rest n before held) (cut : rest ≡ line ∷ after) where
  here : (m : MemoryFor) → read_lines m rest n held ≡ read_lines m (line ∷ after) n held
  here m = ap (λ ls. read_lines m ls n held) cut

  pub after_line : (e : Option Entry) (longer : Lists) (m : ℕ) → entry_at line n held ≡ Ok e → longer ≡ with_entry e held → m ≡ n + 1 → Sofar whole after m before longer
  after_line e longer m h p q = record {
    pushed = so.pushed + cost e;
    limited = λ k.
        ap (λ j. read_lines (only j) whole 1 before) (add_assoc so.pushed (cost e) k)
        ∙ so.limited (cost e + k)
        ∙ here (only (cost e + k))
        ∙ next_line (only (cost e + k)) line after n held (only k) e h (spend_only e k)
        ∙ (λ i. read_lines (only k) after (sym q i) (sym p i));
    unlimited =
        so.unlimited ∙ here all
        ∙ next_line all line after n held all e h (spend_all e)
        ∙ (λ i. read_lines all after (sym q i) (sym p i));
  }

  pub at_short : (e : Option Entry) → entry_at line n held ≡ Ok e → spend e (only 0) ≡ None → read_lines (only (so.pushed + 0)) whole 1 before ≡ stopped held (Line (Memory n))
  at_short e h p = so.limited 0 ∙ here (only 0) ∙ no_memory (only 0) line after n held e h p

-- a file within the limit is its lines
pub in_limit : (m : MemoryFor) (limit : ℕ) (bytes : List ℕ) (s : Lists) → length bytes ≤ limit → reading m limit bytes s ≡ read_lines m (lines bytes) 1 s
in_limit m limit bytes s h = cond-true _ _ _ (le-leb (length bytes) limit h)

-- want of memory
pub reads_short : (limit : ℕ) (bytes : List ℕ) (before held after : Lists) (r : Result (Unit {0}) FileFault) (n k : ℕ) → length bytes ≤ limit → read_lines (only k) (lines bytes) 1 before ≡ stopped held (Line (Memory n)) → after ≡ held → r ≡ Err (Line (Memory n)) → Reads limit bytes before after r
reads_short limit bytes before held after r n k h e a t = record {
  memory = only k;
  result = in_limit (only k) limit bytes before h ∙ e ∙ (λ i. record { held = sym a i; answer = sym t i });
  whole = λ known. let lost : short r ≡ true = ap short t in absurd (true≢false (sym lost ∙ known));
}
