-- The two tables as one value. Assumes nothing.
use Rattle.std.specs.Prelude.{◌≡◌}
use Rattle.spans.specs.declared.Tables.{Tables}

-- The same tables are lent, and as many nodes looked at.
pub record Same (t t' : Tables) : Type 0 where
  pub many : t'.many ≡ t.many
  pub first : t'.first.ghost_name ≡ t.first.ghost_name
  pub last : t'.last.ghost_name ≡ t.last.ghost_name
