-- The lines of rows, aligned for reading or with commas between their cells.
use Rattle.std.specs.Prelude.{ℕ, ◌-◌, Bool, true, false, List, [], ◌∷◌, ◌++◌, length, replicate, codes}
use Rattle.std.specs.List.{flat_map}
use Rattle.fsb_owner_table.specs.declared.row.Row.{Row}
use Rattle.row_texts.specs.declared.column.Column.{Column}
use Rattle.row_texts.specs.declared.column.Column.TheVariants as columns
use Rattle.row_texts.specs.declared.line.Form.{Form}
use Rattle.row_texts.specs.declared.line.Form.TheVariants as forms
use Rattle.row_texts.specs.Cells.{column_text}

-- the columns, in their order
unfoldable pub all_columns : List Column
all_columns =
    columns.First ∷ columns.Agent ∷ columns.Kind ∷ columns.Address ∷ columns.Snoop ∷ columns.Signs ∷ columns.Response ∷
    columns.Outcome ∷ columns.End ∷ columns.Reply ∷ columns.ToSnoop ∷ columns.ToResponse ∷ columns.ToEnd ∷ []

-- the name of a column
unfoldable pub name_of : Column → List ℕ
name_of columns.First = codes "first"
name_of columns.Agent = codes "agent"
name_of columns.Kind = codes "kind"
name_of columns.Address = codes "address"
name_of columns.Snoop = codes "snoop"
name_of columns.Signs = codes "signs"
name_of columns.Response = codes "response"
name_of columns.Outcome = codes "outcome"
name_of columns.End = codes "end"
name_of columns.Reply = codes "reply"
name_of columns.ToSnoop = codes "first_to_snoop"
name_of columns.ToResponse = codes "snoop_to_response"
name_of columns.ToEnd = codes "first_to_end"

-- how wide a column is at least in aligned lines; the last one ends with its cell
unfoldable pub width_of : Column → ℕ
width_of columns.First = 8
width_of columns.Agent = 5
width_of columns.Kind = 10
width_of columns.Address = 9
width_of columns.Snoop = 8
width_of columns.Signs = 10
width_of columns.Response = 8
width_of columns.Outcome = 8
width_of columns.End = 8
width_of columns.Reply = 8
width_of columns.ToSnoop = 14
width_of columns.ToResponse = 17
width_of columns.ToEnd = 0

-- the first column
unfoldable pub is_first : Column → Bool
is_first columns.First = true
is_first _ = false

-- what stands before the cell of a column
unfoldable pub lead_text : Form → Bool → List ℕ
lead_text form true = []
lead_text forms.Csv false = codes ","
lead_text forms.Text false = codes "  "

-- a cell that is filled up with spaces
unfoldable pub padded_text : ℕ → List ℕ → List ℕ
padded_text width cell = cell ++ replicate (width - length cell) 32

-- an aligned cell: a dash where it is empty
unfoldable pub aligned_text : ℕ → List ℕ → List ℕ
aligned_text width [] = padded_text width (codes "-")
aligned_text width (b ∷ bs) = padded_text width (b ∷ bs)

-- a cell of this column
unfoldable pub cell_text : Form → Column → List ℕ → List ℕ
cell_text forms.Csv column cell = cell
cell_text forms.Text column cell = aligned_text (width_of column) cell

-- the same with what stands before it
abbrev pub place_text : Form → Column → List ℕ → List ℕ
place_text form column cell = lead_text form (is_first column) ++ cell_text form column cell

-- the line of the names
abbrev pub head_text : Form → List ℕ
head_text form = flat_map (λ column. place_text form column (name_of column)) all_columns ++ codes "\n"

-- the line of a row, where its clocks come behind so many
abbrev pub line_text : Form → ℕ → Row → List ℕ
line_text form before row = flat_map (λ column. place_text form column (column_text before row column)) all_columns ++ codes "\n"

-- the lines of rows
abbrev pub lines_text : Form → ℕ → List Row → List ℕ
lines_text form before rows = flat_map (line_text form before) rows
