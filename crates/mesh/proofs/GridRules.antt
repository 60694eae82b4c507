-- A depth grid keeps the rules; its cells by row and column.
use Rattle.std.proofs.Common.{◌≡◌, ℕ, zero, suc, ◌+◌, ◌-◌, ◌*◌, ◌/◌, ◌%◌, ◌<◌, ◌≤◌, true, false, ◌≢◌, List, length, get_or, Some, None, Option, sym, refl, ap, ◌∙◌, subst, inl, inr, arith}
use Rattle.std.proofs.lemmas.List.{get_or_past}
use Rattle.std.proofs.lemmas.List.Elements.{All-get_or}
use Rattle.std.proofs.lemmas.List.Sums.{AllPass-from_list_all}
use Rattle.std.proofs.lemmas.Bool.Decides.{nat_tests}
use Rattle.std.proofs.lemmas.Bool.{leb-true, cases_lt}
use Rattle.std.proofs.lemmas.Option.{cond_some}
use Rattle.std.proofs.lemmas.Nat.{div-add-mod', mul-le, mul-add-lt, div-mul-add, mod-mul-add, div_below, mod_below}
use Rattle.mesh.specs.HalfEdges.{next}
use Rattle.mesh.specs.Model.{Lawful, Near, end_of, origin}
use Rattle.std.specs.List.{list_all}
use Rattle.mesh.specs.Grid.{point, corner_at, corner, grid_start, upper, left, right, at_side, across, grid_triangles, grid_present, at_place, grid_place, when_present, grid, small, within, grid_fits, Limits, cell, Cells}

-- rows and columns of the cells beside a cell
module _ (V : ℕ) (some : 0 < V) where
  place_back : (c : ℕ) → c / V * V + c % V ≡ c
  place_back c = div-add-mod' c V

  down_place : (c : ℕ) → (c + V ≡ (c / V + 1) * V + c % V)
  down_place c = let e = place_back c in let d : (c / V + 1) * V ≡ c / V * V + V = omega arith in omega arith

  pub down_row : (c : ℕ) → (c + V) / V ≡ c / V + 1
  down_row c = ap (λ x. x / V) (down_place c) ∙ div-mul-add (c / V + 1) V (c % V) (mod_below c V some)

  pub down_column : (c : ℕ) → (c + V) % V ≡ c % V
  down_column c = ap (λ x. x % V) (down_place c) ∙ mod-mul-add (c / V + 1) V (c % V) (mod_below c V some)

  right_place : (c : ℕ) → c + 1 ≡ c / V * V + (c % V + 1)
  right_place c = omega (arith, place_back c)

  pub right_row : (c : ℕ) → c % V + 1 < V → (c + 1) / V ≡ c / V
  right_row c h = ap (λ x. x / V) (right_place c) ∙ div-mul-add (c / V) V (c % V + 1) h

  pub right_column : (c : ℕ) → c % V + 1 < V → (c + 1) % V ≡ c % V + 1
  right_column c h = ap (λ x. x % V) (right_place c) ∙ mod-mul-add (c / V) V (c % V + 1) h

  upper_is : (c d : ℕ) → upper V c ≡ Some d → c ≡ d + V
  upper_is c d e =
      let r : c / V ≢ 0 = grind (arith, nat_tests) in
      let m : c - V ≡ d = grind (arith, nat_tests) in
      let w : 1 * V ≤ c / V * V = mul-le 1 V (c / V) V (omega arith) (omega arith) in
      omega (arith, place_back c)

  upper_from : (d : ℕ) → upper V (d + V) ≡ Some d
  upper_from d = let r : (d + V) / V ≢ 0 = λ z. omega (arith, down_row d) in let e : d + V - V ≡ d = omega arith in grind (arith, nat_tests)

  last_column : (d : ℕ) → d % V + 1 ≡ V → (d + 1) % V ≡ 0
  last_column d h =
      let e : d + 1 ≡ (d / V + 1) * V + 0 = omega (arith, place_back d) in
      ap (λ x. x % V) e ∙ mod-mul-add (d / V + 1) V 0 some

  left_is : (c d : ℕ) → left V c ≡ Some d → (c ≡ d + 1) × (d % V + 1 < V)
  left_is c d e =
      let r : c % V ≢ 0 = grind (arith, nat_tests) in
      let m : c - 1 ≡ d = grind (arith, nat_tests) in
      let l : c ≡ d + 1 = omega (arith, place_back c) in
      let k : d % V < V = mod_below d V some in
      let no_last : d % V + 1 ≢ V = λ h. r (ap (λ x. x % V) l ∙ last_column d h) in
      (l, omega (arith, no_last))

  left_from : (d : ℕ) → d % V + 1 < V → left V (d + 1) ≡ Some d
  left_from d h = let r : (d + 1) % V ≢ 0 = λ z. omega (arith, right_column d h) in let e : d + 1 - 1 ≡ d = omega arith in grind (arith, nat_tests)

  right_is : (c d : ℕ) → right V c ≡ Some d → (d ≡ c + 1) × (c % V + 1 < V)
  right_is c d e = (grind (arith, nat_tests), grind (arith, nat_tests))

  right_from : (c : ℕ) → c % V + 1 < V → right V c ≡ Some (c + 1)
  right_from c h = grind (arith, nat_tests)

side_of : (o : Option ℕ) (s g : ℕ) → at_side o s ≡ Some g → (d : ℕ) × (o ≡ Some d) × (g ≡ 6 * d + s)
side_of None s g e = absurd cc
side_of (Some d) s g e = let q : g ≡ 6 * d + s = cc in (d, refl, q)

-- `next` of a side's number is that of the side after it, in its triangle
module _ (V : ℕ) (some : 0 < V) where
  -- what a function gives at the cell and the side of a half-edge
  at_cell : {A : Type 0} (F : ℕ → ℕ → A) (d s g : ℕ) → g ≡ 6 * d + s → s < 6 → F (g / 6) (g % 6) ≡ F d s
  at_cell F d s g e l = let p : g / 6 ≡ d = omega arith in let q : g % 6 ≡ s = omega arith in ap (λ x. F x (g % 6)) p ∙ ap (F d) q

  back_at : (c s g : ℕ) → s < 6 → across V c s ≡ Some g → across V (g / 6) (g % 6) ≡ Some (6 * c + s)
  back_at c zero g l e =
      let (d, p, q) = side_of (upper V c) 3 g e in
      at_cell (across V) d 3 g q (omega arith) ∙ ap Some (omega (arith, upper_is V some c d p))
  back_at c (suc zero) g l e = let q : g ≡ 6 * c + 4 = cc in at_cell (across V) c 4 g q (omega arith)
  back_at c (suc (suc zero)) g l e =
      let (d, p, q) = side_of (left V c) 5 g e in
      let (m, n) = left_is V some c d p in
      at_cell (across V) d 5 g q (omega arith) ∙ ap (λ o. at_side o 2) (right_from V some d n) ∙ ap Some (omega arith)
  back_at c (suc (suc (suc zero))) g l e =
      let q : g ≡ 6 * (c + V) + 0 = cc in
      at_cell (across V) (c + V) 0 g q (omega arith) ∙ ap (λ o. at_side o 3) (upper_from V some c)
  back_at c (suc (suc (suc (suc zero)))) g l e = let q : g ≡ 6 * c + 1 = cc in at_cell (across V) c 1 g q (omega arith)
  back_at c (suc (suc (suc (suc (suc zero))))) g l e =
      let (d, p, q) = side_of (right V c) 2 g e in
      let (m, n) = right_is V some c d p in
      at_cell (across V) d 2 g q (omega arith) ∙ ap (λ x. at_side (left V x) 5) m ∙ ap (λ o. at_side o 5) (left_from V some c n)
  back_at c (suc (suc (suc (suc (suc (suc s)))))) g l e = absurd (omega arith)

  along_at : (c s g : ℕ) → s < 6 → across V c s ≡ Some g → grid_start V g ≡ corner V c (next s)
  along_at c zero g l e =
      let (d, p, q) = side_of (upper V c) 3 g e in
      let m = upper_is V some c d p in
      let r = down_row V some d in
      let k = down_column V some d in
      at_cell (corner V) d 3 g q (omega arith) ∙ sym (ap (λ x. corner V x 1) m ∙ ap (λ y. point V y ((d + V) % V + 1)) r ∙ ap (λ y. point V (d / V + 1) (y + 1)) k)
  along_at c (suc zero) g l e = let q : g ≡ 6 * c + 4 = cc in at_cell (corner V) c 4 g q (omega arith)
  along_at c (suc (suc zero)) g l e =
      let (d, p, q) = side_of (left V c) 5 g e in
      let (m, n) = left_is V some c d p in
      let r = right_row V some d n in
      let k = right_column V some d n in
      at_cell (corner V) d 5 g q (omega arith) ∙ sym (ap (λ x. corner V x 0) m ∙ ap (λ y. point V y ((d + 1) % V)) r ∙ ap (point V (d / V)) k)
  along_at c (suc (suc (suc zero))) g l e =
      let q : g ≡ 6 * (c + V) + 0 = cc in
      let r = down_row V some c in
      let k = down_column V some c in
      at_cell (corner V) (c + V) 0 g q (omega arith) ∙ ap (λ y. point V y ((c + V) % V)) r ∙ ap (point V (c / V + 1)) k
  along_at c (suc (suc (suc (suc zero)))) g l e = let q : g ≡ 6 * c + 1 = cc in at_cell (corner V) c 1 g q (omega arith)
  along_at c (suc (suc (suc (suc (suc zero))))) g l e =
      let (d, p, q) = side_of (right V c) 2 g e in
      let (m, n) = right_is V some c d p in
      let r = right_row V some c n in
      let k = right_column V some c n in
      at_cell (corner V) d 2 g q (omega arith) ∙ ap (λ x. corner V x 2) m ∙ ap (λ y. point V (y + 1) ((c + 1) % V)) r ∙ ap (point V (c / V + 1)) k
  along_at c (suc (suc (suc (suc (suc (suc s)))))) g l e = absurd (omega arith)

  next_at : (c s : ℕ) → s < 6 → next (6 * c + s) ≡ 6 * c + next s
  next_at c s l = omega arith

  -- where a half-edge ends
  end_at : (h : ℕ) → grid_start V (next h) ≡ corner V (h / 6) (next (h % 6))
  end_at h =
      let l : h % 6 < 6 = omega arith in
      let e : h ≡ 6 * (h / 6) + h % 6 = omega arith in
      let b : next (h % 6) < 6 = omega arith in
      at_cell (corner V) (h / 6) (next (h % 6)) (next h) (ap next e ∙ next_at (h / 6) (h % 6) l) b

  differ : (c s : ℕ) → s < 6 → corner V c s ≡ corner V c (next s) → ⊥
  differ c zero l e = omega arith
  differ c (suc zero) l e = omega arith
  differ c (suc (suc zero)) l e = omega arith
  differ c (suc (suc (suc zero))) l e = omega arith
  differ c (suc (suc (suc (suc zero)))) l e = omega arith
  differ c (suc (suc (suc (suc (suc zero))))) l e = omega arith
  differ c (suc (suc (suc (suc (suc (suc s)))))) l e = omega arith

  inside : (H c s : ℕ) → c < (H - 1) * V → corner V c s < (V + 1) * H
  inside H c s l =
      let r : c / V < H - 1 = div_below c V (H - 1) some l in
      let k : c % V < V = mod_below c V some in
      let t : c / V + 1 < H = omega arith in
      let u : c % V + 1 < V + 1 = omega arith in
      let w : (c / V + 1) * (V + 1) + (c % V + 1) < (V + 1) * H = mul-add-lt (c / V + 1) (V + 1) (c % V + 1) H t u in
      go s w
    where
      go : (s : ℕ) → (c / V + 1) * (V + 1) + (c % V + 1) < (V + 1) * H → corner_at V (c / V) (c % V) s < (V + 1) * H
      go zero w = omega arith
      go (suc zero) w = omega arith
      go (suc (suc zero)) w = omega arith
      go (suc (suc (suc zero))) w = omega arith
      go (suc (suc (suc (suc zero)))) w = omega arith
      go (suc (suc (suc (suc (suc s))))) w = omega arith

small_at : (xs : List ℕ) → list_all small xs ≡ true → (p : ℕ) → get_or xs p 0 ≤ 10000
small_at xs e p = elim (cases_lt p (length xs)) [
  | inl h ↦ leb-true (get_or xs p 0) 10000 (All-get_or (λ x. small x ≡ true) xs p 0 h (AllPass-from_list_all small xs e))
  | inr h ↦ omega (arith, get_or_past xs p 0 h)
]

within_parts : (low high n : ℕ) → within low high n ≡ true → (low ≤ n) × (n ≤ high)
within_parts low high n e = (grind (arith, nat_tests), grind (arith, nat_tests))

pub limits : (W H s : ℕ) (readings : List ℕ) → grid_fits W H s readings ≡ true → Limits W H s readings
unfolding grid_fits
limits W H s rs e =
    let (w, w₁) = within_parts 2 181 W (grind (arith, nat_tests)) in
    let (h, h₁) = within_parts 2 181 H (grind (arith, nat_tests)) in
    record {
      wide = w;
      narrow = w₁;
      tall = h;
      low = h₁;
      close = (within_parts 1 55 s (grind (arith, nat_tests))).1;
      cells = mul-le (W - 1) (H - 1) 180 180 (omega arith) (omega arith);
      places = mul-le W H 181 181 w₁ h₁;
      many = grind (arith, nat_tests);
      small = small_at rs (grind (arith, nat_tests));
    }

module _ (W H s : ℕ) (rs : List ℕ) (l : Limits W H s rs) where
  some : 0 < W - 1
  some = omega (arith, l.wide)

  pub present_below : (t : ℕ) → grid_present W H rs t ≡ true → t < grid_triangles W H
  present_below t e = grind (arith, nat_tests)

  absent_past : (t : ℕ) → grid_triangles W H ≤ t → grid_present W H rs t ≡ false
  absent_past t h = grind (arith, nat_tests)

  start_of : (h : ℕ) → grid_present W H rs (h / 3) ≡ true → (grid W H s rs).start h ≡ grid_start (W - 1) h
  start_of h p = grind (arith, nat_tests)

  few : grid_triangles W H ≤ 65536
  few = omega (arith, l.cells)

  few_places : W * H ≤ 65536
  few_places = omega (arith, l.places)

  pub column_fits : (p : ℕ) → p % W * s ≤ 9900
  column_fits p =
      let c : p % W < W = mod_below p W (omega (arith, l.wide)) in
      mul-le (p % W) s 180 55 (omega (arith, l.narrow)) l.close

  pub row_fits : (p : ℕ) → p < W * H → p / W * s ≤ 9900
  row_fits p h =
      let r : p / W < H = div_below p W H (omega (arith, l.wide)) (omega arith) in
      mul-le (p / W) s 180 55 (omega (arith, l.low)) l.close

  far : (p : ℕ) → W * H ≤ p → grid_place W H s rs p ≡ origin
  far p h = grind (arith, nat_tests)

  place_of : (p : ℕ) → p < W * H → grid_place W H s rs p ≡ at_place (p % W * s) (p / W * s) (get_or rs p 0)
  place_of p h = grind (arith, nat_tests)

  near : (p : ℕ) → Near (grid_place W H s rs p)
  near p = elim (cases_lt p (W * H)) [
    | inl h ↦ subst Near (sym (place_of p h)) (record { x = omega (arith, column_fits p); y = omega (arith, row_fits p h); z = l.small p })
    | inr h ↦ subst Near (sym (far p h)) (record { x = omega arith; y = omega arith; z = omega arith })
  ]

  pub corner_inside : (h : ℕ) → h < 3 * grid_triangles W H → grid_start (W - 1) h < W * H
  corner_inside h t =
      let c : h / 6 < (H - 1) * (W - 1) = omega arith in
      let i = inside (W - 1) some H (h / 6) (h % 6) c in
      let w : W - 1 + 1 ≡ W = omega (arith, l.wide) in
      subst (λ n. grid_start (W - 1) h < n * H) w i

  corner_in : (h : ℕ) → grid_present W H rs (h / 3) ≡ true → (grid W H s rs).start h < W * H
  corner_in h p = subst (λ n. n < W * H) (sym (start_of h p)) (corner_inside h (omega (arith, present_below (h / 3) p)))

  same_triangle : (h : ℕ) → next h / 3 ≡ h / 3
  same_triangle h = omega arith

  end_is : (h : ℕ) → grid_present W H rs (h / 3) ≡ true → end_of (grid W H s rs) h ≡ corner (W - 1) (h / 6) (next (h % 6))
  end_is h p = start_of (next h) (ap (grid_present W H rs) (same_triangle h) ∙ p) ∙ end_at (W - 1) some h

  apart : (h : ℕ) → grid_present W H rs (h / 3) ≡ true → (grid W H s rs).start h ≡ end_of (grid W H s rs) h → ⊥
  apart h p e = differ (W - 1) some (h / 6) (h % 6) (omega arith) (sym (start_of h p) ∙ e ∙ end_is h p)

  record Twins (h g : ℕ) : Type 0 where
    here : grid_present W H rs (h / 3) ≡ true
    there : grid_present W H rs (g / 3) ≡ true
    beside : across (W - 1) (h / 6) (h % 6) ≡ Some g

  twins_when : (h g : ℕ) (o : Option ℕ) → grid_present W H rs (h / 3) ≡ true → across (W - 1) (h / 6) (h % 6) ≡ o → when_present (grid_present W H rs) o ≡ Some g → Twins h g
  twins_when h g None p a e = absurd cc
  twins_when h g (Some f) p a e =
      let (q, m) = cond_some (grid_present W H rs (f / 3)) f g e in
      record { here = p; there = ap (λ x. grid_present W H rs (x / 3)) (sym m) ∙ q; beside = a ∙ ap Some m }

  twins_of : (h g : ℕ) → (grid W H s rs).twin h ≡ Some g → Twins h g
  twins_of h g e =
      let p : grid_present W H rs (h / 3) ≡ true = grind (arith, nat_tests) in
      let w : when_present (grid_present W H rs) (across (W - 1) (h / 6) (h % 6)) ≡ Some g = grind (arith, nat_tests) in
      twins_when h g (across (W - 1) (h / 6) (h % 6)) p refl w

  twins_from : (h g : ℕ) → Twins h g → (grid W H s rs).twin h ≡ Some g
  twins_from h g t =
      let w : when_present (grid_present W H rs) (Some g) ≡ Some g = grind (arith, nat_tests, t.there) in
      let a = t.beside in
      grind (arith, nat_tests, t.here)

  back : (h g : ℕ) → (grid W H s rs).twin h ≡ Some g → (grid W H s rs).twin g ≡ Some h
  back h g e =
      let t = twins_of h g e in
      twins_from g h (record { here = t.there; there = t.here; beside = back_at (W - 1) some (h / 6) (h % 6) g (omega arith) t.beside ∙ ap Some (omega arith) })

  along : (h g : ℕ) → (grid W H s rs).twin h ≡ Some g → (grid W H s rs).start g ≡ end_of (grid W H s rs) h
  along h g e =
      let t = twins_of h g e in
      start_of g t.there ∙ along_at (W - 1) some (h / 6) (h % 6) g (omega arith) t.beside ∙ sym (end_is h t.here)

  pub grid_lawful : Lawful (grid W H s rs)
  grid_lawful = record {
    few_triangles = few;
    few_points = few_places;
    near = near;
    far = far;
    absent_above = absent_past;
    absent_start = λ h a. grind (arith, nat_tests);
    absent_twin = λ h a. grind (arith, nat_tests);
    corner = corner_in;
    apart = apart;
    back = back;
    along = along;
    against = λ h g e. sym (along g h (back h g e));
  }

-- a cell's row and column
module _ (V r c : ℕ) (l : c < V) where
  row : cell V r c / V ≡ r
  row = div-mul-add r V c l

  column : cell V r c % V ≡ c
  column = mod-mul-add r V c l

  cell_corner : (side : ℕ) → corner V (cell V r c) side ≡ corner_at V r c side
  cell_corner side = ap (λ x. corner_at V x (cell V r c % V) side) row ∙ ap (λ x. corner_at V r x side) column

pub cells : Cells
cells = record {
  corners = λ V r c side l. cell_corner V r c l side;
  above = λ V r c l.
      let e : cell V (r + 1) c ≡ cell V r c + V = omega arith in
      ap (λ x. at_side (upper V x) 3) e ∙ ap (λ o. at_side o 3) (upper_from V (omega arith) (cell V r c));
  top = λ V c l. let e = row V 0 c l in let n : upper V (cell V 0 c) ≡ None = grind (arith, nat_tests) in ap (λ o. at_side o 3) n;
  own = λ V r c. refl;
  beside = λ V r c l.
      let e : cell V r (c + 1) ≡ cell V r c + 1 = omega arith in
      let k : cell V r c % V + 1 < V = omega (arith, column V r c (omega arith)) in
      ap (λ x. at_side (left V x) 5) e ∙ ap (λ o. at_side o 5) (left_from V (omega arith) (cell V r c) k);
  edge = λ V r l. let e = column V r 0 l in let n : left V (cell V r 0) ≡ None = grind (arith, nat_tests) in ap (λ o. at_side o 5) n;
}
