-- The text of a line of the table. Assumes nothing.
use Rattle.std.specs.Prelude.{ℕ, ◌-◌, ◌^◌, List, ◌++◌, codes}
use Rattle.std.specs.Fmt.{format_spec, padded, styled_decimal}
use Rattle.mesh_counts.specs.declared.edges.Edges.{Edges}
use Rattle.pairing_cost.specs.declared.table.Order.{Order}
use Rattle.pairing_cost.specs.declared.table.Order.TheVariants.{Drawn, Shuffled}

abbrev pub order_name : Order → List ℕ
order_name Drawn = codes "drawn"
order_name Shuffled = codes "shuffled"

-- a number at the right of a column, and a name at the left of one, of this width
abbrev pub number_column : ℕ → ℕ → List ℕ
number_column width n = styled_decimal (format_spec 32 3 0 width (2 ^ 64 - 1)) n

abbrev pub name_column : ℕ → List ℕ → List ℕ
name_column width name = padded (format_spec 32 1 0 width (2 ^ 64 - 1)) name

abbrev pub line_text : ℕ → Order → Edges → List ℕ
line_text triangles order edges = number_column 9 triangles ++ codes " " ++ name_column 8 (order_name order) ++ codes " " ++ number_column 12 edges.shared ++ codes " " ++ number_column 12 edges.border
