-- The user's demand 3 on building: specs/Demands.antt, proved. Assumes nothing.
use Prim.Native.Nat.{ℕ}
use mathlib.Core.Path.{◌≡◌, sym, ap, ◌∙◌}
use mathlib.Core.List.{List, reverse}
use native.Mathlib.Omega.{arith}
use lib.ListN.{get_or, length-reverse}
use lib.Seq.{get_or-take}
use lib.Ieee.{Float, nan}
use Rattle.build.specs.Build.{node_room}
use Rattle.tree.specs.Tree.{Ascending}
use Rattle.demands.specs.Run.{node_keys, leaf_keys}
use Rattle.demands.specs.Demands.{Building, QueueOf64}
use Rattle.demands.proofs.Growth.{whole_exactly, grown_leaves, grown_all, firsts_of}
use Rattle.demands.proofs.Order.{grown_ordered, rises_ascend}
use Rattle.demands.proofs.Trace.{nodes_count, run_traced}
use Rattle.demands.proofs.Fits.{covers, count_done, fits_traced, never_10, broken_refused, only_broken}
use Rattle.demands.proofs.Soundness.{grown_first}
use Rattle.demands.proofs.Queue.{done_after, run_of}

pub building : Building
building bound lent given s t run =
    let h = run_traced run in
    let o = grown_ordered h.grown in
    let up : Ascending (node_keys s t) = rises_ascend 0 o.from (node_keys s t) o.nodes_rise in
    record {
      covers = covers s t h;
      fitting = fits_traced s t h;
      never_10 = λ d k. never_10 s d t k (fits_traced s t h);
      broken_refused = λ asks d. broken_refused s d t (fits_traced s t h) asks;
      only_broken = λ d. only_broken s d t;
      finite_given = h.known;
      nodes = h.nodes;
      distances = h.distances;
      nodes_ascend = up;
      leaves_ascend = rises_ascend 0 o.from (leaf_keys s t) o.leaves_rise;
      leaf = λ i l.
          let key : get_or (node_keys s t) i 0 ≡ get_or t.keys i 0 = get_or-take s.nodes t.keys i 0 l in
          let distance : get_or (reverse given) i nan ≡ get_or t.distances i nan =
          ap (λ (ds : List Float). get_or ds i nan) (sym h.distances) ∙ get_or-take s.nodes t.distances i nan l in
          rw (← key, ← distance, grown_leaves h.grown)
          (whole_exactly bound (node_keys s t) (reverse given) up (nodes_count s t h ∙ h.nodes ∙ sym (length-reverse given)) i (omega (arith, nodes_count s t h)));
      leaves = grown_leaves h.grown;
      cells = grown_all h.grown;
      firsts = λ i l.
          let key : get_or (node_keys s t) i 0 ≡ get_or t.keys i 0 = get_or-take s.nodes t.keys i 0 l in
          let first : get_or (firsts_of bound 1 (node_keys s t) (reverse given)) i 0 ≡ get_or t.firsts i 0 =
          ap (λ (fs : List ℕ). get_or fs i 0) (sym h.firsts) ∙ get_or-take s.nodes t.firsts i 0 l in
          rw (← key, ← first) (grown_first h.grown i (omega (arith, nodes_count s t h)));
      done = count_done s t h;
      ends = omega (arith, h.nodes, h.node_room_lem, ap node_room h.lengths_same);
    }

pub queue_of_64 : QueueOf64
queue_of_64 bound lent given low room leaves queue l all =
    let r = run_of bound lent low room leaves queue given all (omega arith) in
    (r.0, r.1, r.2, done_after r.0 r.1 low (run_traced r.2) l)
