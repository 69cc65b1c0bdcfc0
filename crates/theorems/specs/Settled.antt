-- One answer only: of each public call, what it returns and every place of every table that it is lent are settled by its promise. A library's call has its own name here, an
-- exported one that of the header.
use Rattle.std.specs.Prelude.{ℕ, min, max, ◌≡◌, Bool, ◌&&◌, List, leb, Float, get_or, Result}
use Rattle.refusals.specs.declared.Refusal.{Refusal}
use Rattle.refusals.specs.Refusals.{number, Hands}
use Rattle.refusals.proofs.One as refusals
use Rattle.morton.specs.declared.Key.{Key}
use Rattle.morton.specs.Answers.{child_of, vertex_answer, side_answer, HalfSizeSays, CentreSays, ExtentSays}
use Rattle.morton.specs.Field.{coord, add, sub}
use Rattle.morton.specs.Level.{deepest, level, is_cell, parent_of}
use Rattle.morton.specs.Split.{splits}
use Rattle.morton.specs.Vertex.{is_inner}
use Rattle.morton.proofs.One as morton
use Rattle.floats.proofs.Patterns.{PatternOf}
use Rattle.floats.proofs.One as floats
use Rattle.tree.specs.declared.Lookup.{Lookup}
use Rattle.tree.specs.declared.Node.{Node}
use Rattle.tree.specs.Tree.{Tree, Sound, Decides}
use Rattle.tree.specs.Down.{Nodes, leads, NodeSays}
use Rattle.tree.specs.Climb.{LookupSays, distance_at, trusting_of}
use Rattle.tree.proofs.One as tree
use Rattle.build.specs.declared.Request.{Request}
use Rattle.build.specs.declared.State.{State}
use Rattle.build.specs.declared.Answer.{Answer}
use Rattle.build.specs.declared.Lengths.{Lengths}
use Rattle.build.specs.Build.{Tables, Outcome, lengths_of, start_at, start_of, distance_of}
use Rattle.build.proofs.One as build
use Rattle.vertices.specs.Listing.{Lists, ListSays, TrustingSays as ListTrustingSays}
use Rattle.vertices.specs.Cells.{Cells, CellsSays}
use Rattle.vertices.proofs.One as vertices
use Rattle.dual.specs.declared.Dual.{Dual}
use Rattle.dual.specs.Dual.{DualSays, TrustingSays as DualTrustingSays}
use Rattle.dual.proofs.One as dual
use Rattle.slabs.specs.Heights.{slab_at, SlabsSays, TrustingSays as SlabsTrustingSays}
use Rattle.slabs.proofs.One as slabs
use Rattle.lifetimes.specs.Needed.{Reports, LifetimesSays}
use Rattle.lifetimes.specs.Trusted.{TrustingSays as LifetimesTrustingSays}
use Rattle.lifetimes.proofs.One as lifetimes
use Rattle.counting.specs.declared.Text.TheInside.{Inside as Text}
use Rattle.counting.specs.Printed.{line_of, Holds}
use Rattle.counting.proofs.One as counting
use Rattle.mittenhelm_keys.specs.Keys.{HandsKey, HandsSize, Three, HandsCentre}
use Rattle.mittenhelm_keys.proofs.One as keys
use Rattle.mittenhelm_builds.specs.Words.{Reply, start_replies, Effect, distance_effect}
use Rattle.mittenhelm_builds.proofs.One as builds
use Rattle.mittenhelm_reading.specs.Reading.{Found, HandsFound, HandsLookup, Eight, HandsEight, HandsDual, HandsList}
use Rattle.mittenhelm_reading.proofs.One as reading
use Rattle.mittenhelm_trusting.specs.Trusting.{HandsTrustedList, HandsTrustedDual}
use Rattle.mittenhelm_trusting.proofs.One as trusting
use Rattle.mittenhelm_slabs.specs.Spans.{Span, HandsSlabs, HandsTrustedSlabs}
use Rattle.mittenhelm_slabs.proofs.One as spans
use Rattle.mittenhelm_lifetimes.specs.Most.{HandsLifetimes, HandsTrustedLifetimes}
use Rattle.mittenhelm_lifetimes.proofs.One as most

-- Two answers that meet a promise are the same.
abbrev pub OnlyOne : {A : Type 0} → (A → Type 0) → Type 0
OnlyOne {A} promise = (r s : A) → promise r → promise s → r ≡ s

-- ---- refusals

pub number_one : (e : Refusal) → OnlyOne (λ (r : ℕ). r ≡ number e)
number_one = refusals.number_one

pub hand_one : {A : Type 0} (a : Result A Refusal) (was : A) → OnlyOne (λ (r : ℕ × A). Hands a was r.0 r.1)
hand_one = refusals.hand_one

-- ---- keys

pub level_one : (n : ℕ) → OnlyOne (λ (r : ℕ). r ≡ level n)
level_one = morton.level_one

pub is_cell_one : (n : ℕ) → OnlyOne (λ (r : Bool). r ≡ is_cell n)
is_cell_one = morton.is_cell_one

pub parent_one : (n : ℕ) → OnlyOne (λ (r : Key). r.code ≡ parent_of n)
parent_one = morton.parent_one

pub child_one : (n w : ℕ) → OnlyOne (λ (r : Result Key Refusal). r ≡ child_of n w)
child_one = morton.child_one

pub add_one : (m n : ℕ) → OnlyOne (λ (r : Key). r.code ≡ add m n)
add_one = morton.add_one

pub sub_one : (m n : ℕ) → OnlyOne (λ (r : Key). r.code ≡ sub m n)
sub_one = morton.sub_one

pub half_size_one : (n : ℕ) → OnlyOne (HalfSizeSays n)
half_size_one = morton.half_size_one

pub centre_one : (n : ℕ) → OnlyOne (CentreSays n)
centre_one = morton.centre_one

pub extent_one : (n : ℕ) → OnlyOne (ExtentSays n)
extent_one = morton.extent_one

pub height_one : (n : ℕ) → OnlyOne (λ (r : ℕ). r ≡ coord (level n) n 2)
height_one = morton.height_one

pub vertex_one : (n L w : ℕ) → OnlyOne (λ (r : Result Key Refusal). r ≡ vertex_answer n L w)
vertex_one = morton.vertex_one

pub is_inner_one : (L v : ℕ) → OnlyOne (λ (r : Bool). r ≡ is_inner L v)
is_inner_one = morton.is_inner_one

pub side_one : (v L w : ℕ) → OnlyOne (λ (r : Result Key Refusal). r ≡ side_answer v L w)
side_one = morton.side_one

pub should_refine_one : (L bound : ℕ) (d : Float) → OnlyOne (λ (r : Bool). r ≡ (leb L deepest && splits L bound d))
should_refine_one = morton.should_refine_one

-- ---- floats

pub to_bits_one : (d : Float) → OnlyOne (PatternOf d)
to_bits_one = floats.to_bits_one

-- ---- builds

pub start_one : (bound : ℕ) (t : Tables) → OnlyOne (λ (r : Result Answer Refusal). r ≡ start_of bound t)
start_one bound t = morton.equal (start_of bound t)

pub start_at_one : (bound : ℕ) (z : Lengths) → OnlyOne (λ (r : Result Answer Refusal). r ≡ start_at bound z)
start_at_one = build.start_one

pub lengths_one : (t : Tables) → OnlyOne (λ (r : Lengths). r ≡ lengths_of t)
lengths_one t = morton.equal (lengths_of t)

pub distance_one : (s : State) (d : Float) (t : Tables) → OnlyOne (λ (o : Outcome). o ≡ distance_of s d t)
distance_one = build.distance_one

-- ---- trees

pub sound_one : (t : Tree) → OnlyOne (λ (r : Bool). Decides r (Sound t))
sound_one = tree.sound_one

pub first_at_one : (fs : List ℕ) (place : ℕ) → OnlyOne (λ (r : ℕ). r ≡ get_or fs place 0)
first_at_one = tree.first_at_one

pub leads_one : (ks : List ℕ) (first child : ℕ) → OnlyOne (λ (r : Bool). r ≡ leads ks first child)
leads_one = tree.leads_one

pub go_down_one : (n : Nodes) (L x : ℕ) → OnlyOne (λ (r : Node). NodeSays n L x r.level r.place)
go_down_one = tree.go_down_one

pub distance_at_one : (ds : List Float) (place : ℕ) → OnlyOne (λ (r : Float). r ≡ distance_at ds place)
distance_at_one = tree.distance_at_one

pub look_up_one : (t : Tree) (asked : ℕ) → OnlyOne (LookupSays t asked)
look_up_one = tree.look_up_one

pub look_up_trusting_one : (ks : Nodes) (ds : List Float) (k : ℕ) → OnlyOne (λ (r : Result Lookup Refusal). r ≡ trusting_of ks ds k)
look_up_trusting_one = tree.look_up_trusting_one

pub list_one : (t : Tree) (start : ℕ) (was : Lists) → OnlyOne (λ (o : Lists × Result ℕ Refusal). ListSays t start was o.0 o.1)
list_one = vertices.list_one

pub list_trusting_one : (ks : Nodes) (start : ℕ) (was : Lists) → OnlyOne (λ (o : Lists × Result ℕ Refusal). ListTrustingSays ks start was o.0 o.1)
list_trusting_one = vertices.list_trusting_one

pub cells_trusting_one : (ks : Nodes) (from : ℕ) (was : Cells) → OnlyOne (λ (o : Cells × ℕ). CellsSays ks from was o.0 o.1)
cells_trusting_one = vertices.cells_trusting_one

pub dual_cell_one : (t : Tree) (L v : ℕ) → OnlyOne (λ (r : Dual). DualSays t L v r.keys r.distances r.places r.tried)
dual_cell_one = dual.dual_cell_one

pub dual_cell_trusting_one : (ks : Nodes) (ds : List Float) (L v : ℕ) → OnlyOne (λ (r : Dual). DualTrustingSays ks ds L v r.keys r.distances r.places r.tried)
dual_cell_trusting_one = dual.dual_cell_trusting_one

pub slabs_one : (t : Tree) (L v s : ℕ) → OnlyOne (SlabsSays t L v s)
slabs_one = slabs.slabs_one

pub slabs_trusting_one : (ks : Nodes) (L v s : ℕ) → OnlyOne (SlabsTrustingSays ks L v s)
slabs_trusting_one = slabs.slabs_trusting_one

pub slab_at_one : (s k : ℕ) → OnlyOne (λ (r : ℕ). r ≡ slab_at s k)
slab_at_one = slabs.slab_at_one

pub lesser_one : (a b : ℕ) → OnlyOne (λ (r : ℕ). r ≡ min a b)
lesser_one = slabs.lesser_one

pub greater_one : (a b : ℕ) → OnlyOne (λ (r : ℕ). r ≡ max a b)
greater_one = slabs.greater_one

pub lifetimes_one : (t : Tree) (s : ℕ) (was : Reports) → OnlyOne (λ (o : Reports × Result ℕ Refusal). LifetimesSays t s was o.0 o.1)
lifetimes_one = lifetimes.lifetimes_one

pub lifetimes_trusting_one : (ks : Nodes) (s : ℕ) (was : Reports) → OnlyOne (λ (o : Reports × Result ℕ Refusal). LifetimesTrustingSays ks s was o.0 o.1)
lifetimes_trusting_one = lifetimes.lifetimes_trusting_one

-- ---- the line that `counts` prints

pub line_one : (input : List ℕ) → OnlyOne (λ (t : Text). Holds (line_of input) t.bytes t.count)
line_one = counting.line_one

pub text_one : (input : List ℕ) → OnlyOne (λ (line : List ℕ). line ≡ line_of input)
text_one = counting.text_one

-- ---- exported calls: the number that is returned, and what the out parameters hold then

pub mittenhelm_level_one : (k : ℕ) → OnlyOne (λ (r : ℕ). r ≡ level k)
mittenhelm_level_one = keys.level_one

pub mittenhelm_is_cell_one : (k : ℕ) → OnlyOne (λ (r : Bool). r ≡ is_cell k)
mittenhelm_is_cell_one = keys.is_cell_one

pub mittenhelm_parent_one : (k : ℕ) → OnlyOne (λ (r : ℕ). r ≡ parent_of k)
mittenhelm_parent_one = keys.parent_one

pub mittenhelm_add_one : (a b : ℕ) → OnlyOne (λ (r : ℕ). r ≡ add a b)
mittenhelm_add_one = keys.add_one

pub mittenhelm_sub_one : (a b : ℕ) → OnlyOne (λ (r : ℕ). r ≡ sub a b)
mittenhelm_sub_one = keys.sub_one

pub mittenhelm_child_one : (k w was : ℕ) → OnlyOne (λ (r : ℕ × ℕ). HandsKey (child_of k w) was r.0 r.1)
mittenhelm_child_one = keys.child_one

pub mittenhelm_half_size_one : (k : ℕ) (was : Float) → OnlyOne (λ (r : ℕ × Float). HandsSize k was r.0 r.1)
mittenhelm_half_size_one = keys.half_size_one

pub mittenhelm_centre_one : (k : ℕ) (was : Three) → OnlyOne (λ (r : ℕ × Three). HandsCentre k was r.0 r.1)
mittenhelm_centre_one = keys.centre_one

pub mittenhelm_vertex_one : (k L w was : ℕ) → OnlyOne (λ (r : ℕ × ℕ). HandsKey (vertex_answer k L w) was r.0 r.1)
mittenhelm_vertex_one = keys.vertex_one

pub mittenhelm_is_inner_one : (v L : ℕ) → OnlyOne (λ (r : Bool). r ≡ is_inner L v)
mittenhelm_is_inner_one = keys.is_inner_one

pub mittenhelm_side_one : (v L w was : ℕ) → OnlyOne (λ (r : ℕ × ℕ). HandsKey (side_answer v L w) was r.0 r.1)
mittenhelm_side_one = keys.side_one

pub mittenhelm_should_refine_one : (L bound : ℕ) (d : Float) → OnlyOne (λ (r : Bool). r ≡ (leb L deepest && splits L bound d))
mittenhelm_should_refine_one = keys.should_refine_one

pub mittenhelm_start_one : (bound : ℕ) (t : Tables) (words : List ℕ) (q : Request) → OnlyOne (λ (r : Reply). r ≡ start_replies bound t words q)
mittenhelm_start_one = builds.start_one

pub mittenhelm_distance_one : (words : List ℕ) (d : Float) (t : Tables) (q : Request) → OnlyOne (λ (r : Effect). r ≡ distance_effect words d t q)
mittenhelm_distance_one = builds.distance_one

pub mittenhelm_sound_one : (t : Tree) → OnlyOne (λ (r : Bool). Decides r (Sound t))
mittenhelm_sound_one = reading.sound_one

pub mittenhelm_look_up_one : (t : Tree) (k : ℕ) (was : Found) → OnlyOne (λ (r : ℕ × Found). HandsLookup t k was r.0 r.1)
mittenhelm_look_up_one = reading.look_up_one

pub mittenhelm_list_one : (t : Tree) (start was : ℕ) (before : Lists) → OnlyOne (λ (r : Lists × (ℕ × ℕ)). HandsList t start before r.0 was r.1.0 r.1.1)
mittenhelm_list_one = reading.list_one

pub mittenhelm_dual_cell_one : (t : Tree) (L v : ℕ) (was : Eight) → OnlyOne (λ (r : ℕ × Eight). HandsDual t L v was r.0 r.1)
mittenhelm_dual_cell_one = reading.dual_cell_one

pub mittenhelm_slabs_one : (t : Tree) (L v s : ℕ) (was : Span) → OnlyOne (λ (r : ℕ × Span). HandsSlabs t L v s was r.0 r.1)
mittenhelm_slabs_one = spans.slabs_one

pub mittenhelm_lifetimes_one : (t : Tree) (s was : ℕ) (before : Reports)
    → OnlyOne (λ (r : Reports × (ℕ × ℕ)). HandsLifetimes t s before r.0 was r.1.0 r.1.1)
mittenhelm_lifetimes_one = most.lifetimes_one

pub mittenhelm_look_up_trusting_one : (ks : Nodes) (ds : List Float) (k : ℕ) (was : Found) → OnlyOne (λ (r : ℕ × Found). HandsFound (trusting_of ks ds k) was r.0 r.1)
mittenhelm_look_up_trusting_one = trusting.look_up_trusting_one

pub mittenhelm_list_trusting_one : (ks : Nodes) (start was : ℕ) (before : Lists) → OnlyOne (λ (r : Lists × (ℕ × ℕ)). HandsTrustedList ks start before r.0 was r.1.0 r.1.1)
mittenhelm_list_trusting_one = trusting.list_trusting_one

pub mittenhelm_cells_trusting_one : (ks : Nodes) (from : ℕ) (was : Cells) → OnlyOne (λ (r : Cells × ℕ). CellsSays ks from was r.0 r.1)
mittenhelm_cells_trusting_one = trusting.cells_trusting_one

pub mittenhelm_dual_cell_trusting_one : (ks : Nodes) (ds : List Float) (L v : ℕ) (was : Eight) → OnlyOne (λ (r : ℕ × Eight). HandsTrustedDual ks ds L v was r.0 r.1)
mittenhelm_dual_cell_trusting_one = trusting.dual_cell_trusting_one

pub mittenhelm_slabs_trusting_one : (ks : Nodes) (L v s : ℕ) (was : Span) → OnlyOne (λ (r : ℕ × Span). HandsTrustedSlabs ks L v s was r.0 r.1)
mittenhelm_slabs_trusting_one = spans.slabs_trusting_one

pub mittenhelm_lifetimes_trusting_one : (ks : Nodes) (s was : ℕ) (before : Reports)
    → OnlyOne (λ (r : Reports × (ℕ × ℕ)). HandsTrustedLifetimes ks s before r.0 was r.1.0 r.1.1)
mittenhelm_lifetimes_trusting_one = most.lifetimes_trusting_one

-- ---- what hands an answer to a host

pub hand_found_one : (a : Result Lookup Refusal) (was : Found) → OnlyOne (λ (r : ℕ × Found). HandsFound a was r.0 r.1)
hand_found_one = reading.hand_found_one

pub hand_eight_one : (a : Dual) (was : Eight) → OnlyOne (λ (r : ℕ × Eight). HandsEight a.keys a.distances a.places a.tried was r.0 r.1)
hand_eight_one = reading.hand_eight_one

pub hand_count_one : (a : Result ℕ Refusal) (was : ℕ) → OnlyOne (λ (r : ℕ × ℕ). Hands a was r.0 r.1)
hand_count_one = refusals.hand_one

pub hand_most_one : (a : Result ℕ Refusal) (was : ℕ) → OnlyOne (λ (r : ℕ × ℕ). Hands a was r.0 r.1)
hand_most_one = refusals.hand_one
