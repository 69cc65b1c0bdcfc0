-- The number of each call, in the order in which the sample was begun. Assumes nothing.
use Rattle.std.specs.Prelude.{ℕ}
use Rattle.sample.specs.declared.Op.{Op}
use Rattle.sample.specs.declared.Op.TheVariants.{Level, IsCell, Parent, Child, Add, Sub, HalfSize, Centre, Vertex, IsInner, Side, ShouldRefine, Start, Distance, KeysAt, NodeAt, Put, Sound, LookUp, List, VertexAt, DualCell, Slabs, Lifetimes}

abbrev pub number_of : Op → ℕ
number_of Level = 0
number_of IsCell = 1
number_of Parent = 2
number_of Child = 3
number_of Add = 4
number_of Sub = 5
number_of HalfSize = 6
number_of Centre = 7
number_of Vertex = 8
number_of IsInner = 9
number_of Side = 10
number_of ShouldRefine = 11
number_of Start = 12
number_of Distance = 13
number_of KeysAt = 14
number_of NodeAt = 15
number_of Put = 16
number_of Sound = 17
number_of LookUp = 18
number_of List = 19
number_of VertexAt = 20
number_of DualCell = 21
number_of Slabs = 22
number_of Lifetimes = 23
