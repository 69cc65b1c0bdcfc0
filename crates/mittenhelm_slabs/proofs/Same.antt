-- Of a sound tree, what is handed over is what the call that checks it first hands over. Assumes nothing.
use Prim.Native.Nat.{ℕ, ◌^◌, ◌<◌}
use Rattle.tree.specs.Tree.{Tree, Sound}
use Rattle.tree.proofs.Finding.{nodes}
use Rattle.slabs.proofs.Answering.{trusting_slabs}
use Rattle.mittenhelm_slabs.specs.Spans.{Span, HandsSlabs, HandsTrustedSlabs}

-- a vertex is a number of 64 bits
pub same_slabs : (t : Tree) → Sound t → (L v s : ℕ) → v < 2 ^ 64 → (was : Span) (r : ℕ) (out : Span)
    → HandsTrustedSlabs (nodes t) L v s was r out → HandsSlabs t L v s was r out
same_slabs t S L v s word was r out (a, says, h) = (a, trusting_slabs t S L v s word a says, h)
