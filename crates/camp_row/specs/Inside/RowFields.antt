-- A row in its fields.
use Rattle.std.specs.Prelude.{◌≡◌, ◌+◌, ◌*◌, ◌<◌, ◌≤◌}
use Rattle.camp_row.specs.PassState.{RowId, most_cells, most_seats}
use Rattle.camp_row.specs.declared.rows.Row.TheInside.{Inside}

abbrev pub id_of : Inside → RowId
id_of row = record { table = row.table.shared.table_id; seats = row.seats; per_seat = row.per_seat }

-- the invariant of a row: its table keeps the invariant of rows with its number of seats and cells, and has a word for
-- the head and two for each cell
pub record IsRow (row : Inside) : Type 0 where
  pub words : row.table.shared.table_id.words ≡ 1 + 2 * (row.per_seat * row.seats)
  pub slots : row.table.shared.table_id.slots ≡ 0
  pub key_seats : row.table.shared.key.seats ≡ row.seats
  pub key_per_seat : row.table.shared.key.per_seat ≡ row.per_seat
  pub seats : (0 < row.seats) × (row.seats ≤ most_seats)
  pub per_seat : (0 < row.per_seat) × (row.per_seat ≤ most_cells)
