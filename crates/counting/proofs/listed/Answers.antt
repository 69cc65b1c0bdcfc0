-- `listed` meets its contract: the tree of a finished build is sound. Assumes nothing.
use mathlib.Core.Path.{sym}
use Rattle.counting.proofs.Trees.{as_many_keys, as_many_distances, as_many_firsts, as_many_leaves, built_sound, list_is}
use Rattle.counting.proofs.listed.Goals as goal

pub slice_bounds-tree-end : goal.slice_bounds-tree-end
slice_bounds-tree-end c = sym (as_many_keys c.requires)

pub slice_bounds-tree-end-2 : goal.slice_bounds-tree-end-2
slice_bounds-tree-end-2 c = sym (as_many_firsts c.requires)

pub slice_bounds-tree-end-3 : goal.slice_bounds-tree-end-3
slice_bounds-tree-end-3 c = sym (as_many_distances c.requires)

pub slice_bounds-tree-end-4 : goal.slice_bounds-tree-end-4
slice_bounds-tree-end-4 c = sym (as_many_leaves c.requires)

pub returns : goal.returns
returns c = list_is _ _ c.list.result (built_sound c.requires) c.list.ensures
