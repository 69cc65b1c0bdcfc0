-- Of a sound tree, what is handed over is what the call that checks it first hands over. Assumes nothing.
use Prim.Native.Nat.{ℕ, ◌^◌, ◌<◌}
use lib.ListN.{length, get_or}
use Rattle.tree.specs.Tree.{Tree, Sound}
use Rattle.tree.proofs.Finding.{nodes}
use Rattle.lifetimes.specs.Needed.{Reports}
use Rattle.lifetimes.proofs.Joining.{trusting_lifetimes}
use Rattle.mittenhelm_lifetimes.specs.Most.{HandsLifetimes, HandsTrustedLifetimes}

-- the place of a first child is a number of 16 bits
pub same_lifetimes : (t : Tree) → Sound t → ((i : ℕ) → i < length t.firsts → get_or t.firsts i 0 < 2 ^ 16) → (s : ℕ) (before after : Reports) (was r out : ℕ)
    → HandsTrustedLifetimes (nodes t) s before after was r out → HandsLifetimes t s before after was r out
same_lifetimes t S short s before after was r out (a, says, h) = (a, trusting_lifetimes t S short s before after a says, h)
