-- The laws of a reading: how it ends, line by line, and what it keeps. Assumes nothing.
use Rattle.std.proofs.Common.{◌≡◌, ℕ, zero, suc, ◌+◌, ◌<◌, ◌⊎◌, List, [], ◌∷◌, ◌++◌, length, Some, None, Ok, Err, Option, Result, sym, refl, ap, ◌∙◌, subst, inl, inr, ⊎_elim, append_assoc, append-nil, add-zero, arith}
use Rattle.std.proofs.lemmas.Option.{none-some}
use Rattle.std.proofs.lemmas.Bool.{cond-false, cases_lt, lt-leb}
use Rattle.mesh.specs.declared.Point.{Point}
use Rattle.mesh.specs.declared.Triangle.{Triangle}
use Rattle.set_file.specs.declared.line.Entry.{Entry}
use Rattle.set_file.specs.declared.line.Entry.TheVariants.{Vertex, Face}
use Rattle.set_file.specs.declared.line.LineFault.{LineFault}
use Rattle.set_file.specs.declared.line.LineFault.TheVariants.{Memory}
use Rattle.set_file.specs.declared.file.FileFault.TheVariants.{Size, Line}
use Rattle.set_file.specs.Parts.{lines}
use Rattle.set_file.specs.Files.{Lists, Reading, MemoryFor, all, only, spend, with_entry, entry_at, stopped, or_short, enter, read_lines, reading}
use Rattle.set_file.specs.Laws.{Lead, Done, Refused, Short, LineByLine, GoodFiles, Extends, Kept}
use Rattle.set_file.proofs.Readings.{spend_all, next_line, in_limit}

abbrev Ending : MemoryFor → List (List ℕ) → ℕ → Lists → Reading → Type 0
Ending m ls n s r = Done ls n s r ⊎ (Refused ls n s r ⊎ Short m ls n s r)

-- only the last of a limited memory is nothing
spent : (e : Option Entry) (m : MemoryFor) → spend e m ≡ None → m ≡ only 0
spent None m p = absurd (none-some m (sym p))
spent (Some e) all p = absurd (none-some all (sym p))
spent (Some e) (only zero) p = refl
spent (Some e) (only (suc k)) p = absurd (none-some (only k) (sym p))

-- a memory that leaves a limited one is limited
spent_limited : (e : Option Entry) (m : MemoryFor) (k : ℕ) → spend e m ≡ Some (only k) → (j : ℕ) × (m ≡ only j)
spent_limited None m k p = (k, cc)
spent_limited (Some e) all k p = let z : all ≡ only k = cc in let y : ◌≡◌ {A = ℕ} 0 1 = cc in absurd (omega arith)
spent_limited (Some e) (only j) k p = (j, refl)

past : (n : ℕ) (good : List (List ℕ)) (l : List ℕ) → n + length (l ∷ good) ≡ (n + 1) + length good
past n good l = omega arith

-- one good line more in front
module _ (m k : MemoryFor) (l : List ℕ) (ls : List (List ℕ)) (n : ℕ) (s : Lists) (e : Option Entry) (h : entry_at l n s ≡ Ok e) (p : spend e m ≡ Some k) (r : Reading) where
  done_more : Done ls (n + 1) (with_entry e s) r → Done (l ∷ ls) n s r
  done_more d = record { led = (e, h, d.led); answer = d.answer }

  refused_more : Refused ls (n + 1) (with_entry e s) r → Refused (l ∷ ls) n s r
  refused_more d = record {
    good = l ∷ d.good;
    bad = d.bad;
    more = d.more;
    fault = d.fault;
    cut = ap (λ (xs : List (List ℕ)). l ∷ xs) d.cut;
    led = (e, h, d.led);
    found = ap (λ j. entry_at d.bad j r.held) (past n d.good l) ∙ d.found;
    answer = d.answer;
  }

  short_more : Short k ls (n + 1) (with_entry e s) r → Short m (l ∷ ls) n s r
  short_more d =
      let j = spent_limited e m d.room (p ∙ ap Some d.limited) in
      record {
        good = l ∷ d.good;
        last = d.last;
        more = d.more;
        entry = d.entry;
        room = j.0;
        limited = j.1;
        cut = ap (λ (xs : List (List ℕ)). l ∷ xs) d.cut;
        led = (e, h, d.led);
        found = ap (λ i. entry_at d.last i r.held) (past n d.good l) ∙ d.found;
        wants = d.wants;
        answer = d.answer ∙ ap (λ i. Err (Line (Memory i))) (sym (past n d.good l));
      }

  ending_more : Ending k ls (n + 1) (with_entry e s) r → Ending m (l ∷ ls) n s r
  ending_more (inl d) = inl (done_more d)
  ending_more (inr (inl d)) = inr (inl (refused_more d))
  ending_more (inr (inr d)) = inr (inr (short_more d))

module _ (m : MemoryFor) (l : List ℕ) (ls : List (List ℕ)) (n : ℕ) (s : Lists) where
  abbrev Here : Reading → Type 0
  Here r = Ending m (l ∷ ls) n s r

  refused_here : (f : LineFault) → entry_at l n s ≡ Err f → Here (stopped s (Line f))
  refused_here f h = inr (inl (record {
    good = [];
    bad = l;
    more = ls;
    fault = f;
    cut = refl;
    led = refl;
    found = ap (λ i. entry_at l i s) (add-zero n) ∙ h;
    answer = refl;
  }))

  short_here : (e : Option Entry) → entry_at l n s ≡ Ok e → spend e m ≡ None → Here (stopped s (Line (Memory n)))
  short_here e h p = inr (inr (record {
    good = [];
    last = l;
    more = ls;
    entry = e;
    room = 0;
    limited = spent e m p;
    cut = refl;
    led = refl;
    found = ap (λ i. entry_at l i s) (add-zero n) ∙ h;
    wants = ap (spend e) (sym (spent e m p)) ∙ p;
    answer = ap (λ i. Err (Line (Memory i))) (sym (add-zero n));
  }))

  -- what comes after the line
  abbrev later : Lists → MemoryFor → Reading
  later t k = read_lines k ls (n + 1) t

  by_memory : (e : Option Entry) → entry_at l n s ≡ Ok e → ((k : MemoryFor) → Ending k ls (n + 1) (with_entry e s) (later (with_entry e s) k)) → (o : Option MemoryFor) → spend e m ≡ o → Here (or_short o n s (later (with_entry e s)))
  by_memory e h ends None p = short_here e h p
  by_memory e h ends (Some k) p = ending_more m k l ls n s e h p _ (ends k)

  by_entry : ((e : Option Entry) (k : MemoryFor) → Ending k ls (n + 1) (with_entry e s) (later (with_entry e s) k)) → (o : Result (Option Entry) LineFault) → entry_at l n s ≡ o → Here (enter o m n s later)
  by_entry ends (Ok e) h = by_memory e h (ends e) (spend e m) refl
  by_entry ends (Err f) h = refused_here f h

ended : (m : MemoryFor) (ls : List (List ℕ)) (n : ℕ) (s : Lists) → Ending m ls n s (read_lines m ls n s)
ended m [] n s = inl (record { led = refl; answer = refl })
ended m (l ∷ ls) n s = by_entry m l ls n s (λ e k. ended k ls (n + 1) (with_entry e s)) (entry_at l n s) refl

too_long : (m : MemoryFor) (limit : ℕ) (bytes : List ℕ) (s : Lists) → limit < length bytes → reading m limit bytes s ≡ stopped s Size
too_long m limit bytes s h = cond-false _ _ _ (lt-leb (length bytes) limit h)

pub line_by_line : LineByLine
line_by_line m limit bytes s =
    ⊎_elim
    (λ h. inl (h, too_long m limit bytes s h))
    (λ h. inr (h, subst (λ r. Ending m (lines bytes) 1 s r) (sym (in_limit m limit bytes s h)) (ended m (lines bytes) 1 s)))
    (cases_lt limit (length bytes))

led : (ls : List (List ℕ)) (n : ℕ) (s t : Lists) → Lead ls n s t → read_lines all ls n s ≡ record { held = t; answer = Ok tt }
led [] n s t p = ap (λ (x : Lists). record { held = x; answer = Ok tt }) (sym p)
led (l ∷ ls) n s t p = next_line all l ls n s all p.0 p.1 (spend_all p.0) ∙ led ls (n + 1) (with_entry p.0 s) t p.2

pub good_files : GoodFiles
good_files limit bytes s t h p = in_limit all limit bytes s h ∙ led (lines bytes) 1 s t p

extends_none : (s t : Lists) → t ≡ s → Extends s t
extends_none s t e = record {
  new_points = [];
  new_triangles = [];
  points = ap (λ (x : Lists). x.points) e ∙ sym (append-nil s.points);
  triangles = ap (λ (x : Lists). x.triangles) e ∙ sym (append-nil s.triangles);
}

extends_entry : (e : Option Entry) (s : Lists) → Extends s (with_entry e s)
extends_entry None s = extends_none s s refl
extends_entry (Some (Vertex p)) s = record { new_points = p ∷ []; new_triangles = []; points = refl; triangles = sym (append-nil s.triangles) }
extends_entry (Some (Face t)) s = record { new_points = []; new_triangles = t ∷ []; points = sym (append-nil s.points); triangles = refl }

extends_more : (s t u : Lists) → Extends s t → Extends t u → Extends s u
extends_more s t u a b = record {
  new_points = a.new_points ++ b.new_points;
  new_triangles = a.new_triangles ++ b.new_triangles;
  points = b.points ∙ ap (λ (l : List Point). l ++ b.new_points) a.points ∙ append_assoc s.points a.new_points b.new_points;
  triangles = b.triangles ∙ ap (λ (l : List Triangle). l ++ b.new_triangles) a.triangles ∙ append_assoc s.triangles a.new_triangles b.new_triangles;
}

led_extends : (ls : List (List ℕ)) (n : ℕ) (s t : Lists) → Lead ls n s t → Extends s t
led_extends [] n s t p = extends_none s t p
led_extends (l ∷ ls) n s t p = extends_more s (with_entry p.0 s) t (extends_entry p.0 s) (led_extends ls (n + 1) (with_entry p.0 s) t p.2)

pub kept : Kept
kept m limit bytes s =
    ⊎_elim
    (λ h. extends_none s _ (ap (λ (r : Reading). r.held) h.1))
    (λ h. ⊎_elim (λ d. led_extends _ 1 s _ d.led) (⊎_elim (λ d. led_extends _ 1 s _ d.led) (λ d. led_extends _ 1 s _ d.led)) h.1)
    (line_by_line m limit bytes s)
