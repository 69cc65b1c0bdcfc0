-- The tables stay the same from one step to the next. Assumes nothing.
use mathlib.Core.Path.{refl, ◌∙◌}
use Rattle.spans.specs.declared.Tables.{Tables}
use Rattle.spans.specs.Tables.{Same}

pub still : {t t' t'' : Tables} → Same t t' → Same t' t'' → Same t t''
still a b = record { many = b.many ∙ a.many; first = b.first ∙ a.first; last = b.last ∙ a.last }

pub lent : (t : Tables) → Same t t
lent t = record { many = refl; first = refl; last = refl }
