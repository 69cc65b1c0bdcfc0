-- What holds for a host behind the C boundary: specs/Hosts.antt, proved. Assumes nothing.
use Prim.Native.Nat.{ℕ, suc, ◌≤◌, ◌<◌}
use mathlib.Core.Path.{◌≡◌, refl, sym, ◌∙◌, ap, subst}
use mathlib.Core.Bool.{Bool, true, false, cond, not}
use mathlib.Core.Logic.{⊎_elim}
use mathlib.Core.List.{List, [], ◌∷◌}
use native.Mathlib.Omega.{arith}
use lib.Dec.{eqb, ltb}
use lib.ListN.{length, get_or}
use lib.Ieee.{Float, nan}
use borrow.Author.Tests.{le-ltb, ltb-false, eq-eqb}
use Rattle.std.specs.Prelude.{Result, Ok, Err, ⊤}
use Rattle.refusals.specs.Refusals.{number}
use Rattle.refusals.specs.declared.Refusal.{Refusal}
use Rattle.refusals.specs.declared.Refusal.TheVariants.{AboveFifteen, NothingAsked, NotFitting, NotFinite}
use Rattle.refusals.proofs.Numbers.{number_apart, some_number}
use Rattle.slabs.specs.declared.Reach.{Reach}
use Rattle.slabs.specs.Heights.{reach as slabs-reached}
use Rattle.morton.specs.Level.{limit}
use Rattle.morton.specs.Vertex.{side_of}
use Rattle.build.specs.declared.Lengths.{Lengths}
use Rattle.build.specs.declared.Request.{Request}
use Rattle.build.specs.declared.State.{State}
use Rattle.build.specs.declared.Answer.{Answer}
use Rattle.build.specs.declared.Answer.TheVariants.{Ask, Finished}
use Rattle.build.specs.Build.{number_of, Tables, Outcome, outcome, lengths_of, request_of, refusal_of, split_of, distance_of, start_of, start_at}
use Rattle.build.proofs.Laws.{refused}
use Rattle.tree.specs.Tree.{Tree, Sound}
use Rattle.vertices.specs.Listing.{Lists, ListSays}
use Rattle.dual.specs.declared.Dual.{Dual}
use Rattle.demands.specs.Run.{Run}
use Rattle.demands.specs.Run.Run.{started as run-started, asked as run-asked, finished as run-finished}
use Rattle.demands.specs.Reading.{HoldsAlone, LeafCell, Reading}
use Rattle.demands.specs.Slabs.{HasVertex}
use Rattle.demands.proofs.Call.{answered, distance_ends}
use Rattle.demands.proofs.Trace.{leaves_count, run_traced}
use Rattle.demands.proofs.Fits.{count_done, refusal_broken, refusal_16}
use Rattle.demands.proofs.Demands.{building, queue_of_64}
use Rattle.demands.proofs.Reading.{of_finished_builds}
use Rattle.demands.proofs.Slabs.{slabs_of_trees}
use Rattle.mittenhelm_builds.specs.Words.{state_of, words_of, Reply, reply, hand_over, start_replies, Effect, effect, effect_of, distance_effect}
use Rattle.mittenhelm_builds.specs.Header.{Told}
use Rattle.mittenhelm_builds.proofs.Words.{start_deep, start_wordless, start_over, distance_wordless, distance_over}
use Rattle.mittenhelm_builds.proofs.Header.{read_back, written_back, words_are_nine, words_told}
use Rattle.mittenhelm_reading.specs.Reading.{Eight, HandsEight, HandsList}
use Rattle.mittenhelm_slabs.specs.Spans.{Span, HandsSpan}
use Rattle.hosts.specs.HostRun.{Host, HostRun}
use Rattle.hosts.specs.HostRun.HostRun.{started, told}
use Rattle.hosts.specs.Hosts.{IsABuild, InReach}
use Rattle.hosts.specs.Hosts.{returned, HostsBuilding, HostsQueueOf64, dual_in, HostsReading, HostsFinished, StartReturns, DistanceReturns}
use Rattle.hosts.specs.Hosts.{RefusedStart, RefusedDistance, Requests, StartRequests, DistanceRequests, Alike, BroughtBackLater, GoesOnAsBefore, BroughtBackAnywhere}
use Rattle.hosts.proofs.Handed.{StartSaid, start_said, Said, said, Asks, distance_asks, number_is, asks_nothing, nothing_asked}
use Rattle.hosts.proofs.Handed.StartSaid.{declines, begins}
use Rattle.hosts.proofs.Handed.Said.{refuses, asks, ends}

-- ---- a host's build is a build

module _ {bound : ℕ} {lent : Tables} where
  begins_run : {words : List ℕ} {places : Request} {r : Reply} → StartSaid bound lent words places r → r.number ≡ 0
      → Run bound lent [] (state_of r.words) lent × (length r.words ≡ 9)
  begins_run (declines n) z = absurd (n z)
  begins_run (begins {s} f _) z = (subst (λ (x : State). Run bound lent [] x lent) (sym (read_back s)) (run-started f), words_are_nine s)

  goes_on : {given : List Float} {words : List ℕ} {d : Float} {t : Tables} {places : Request} {x : Effect}
      → Run bound lent given (state_of words) t → Said words d t places x → x.said.number ≡ 0
      → Run bound lent (d ∷ given) (state_of x.said.words) x.tables × (length x.said.words ≡ 9)
  goes_on h (refuses n) z = absurd (n z)
  goes_on {given} {d = d} h (asks {s = s} {t' = t'} f) z =
      (subst (λ (x : State). Run bound lent (d ∷ given) x t') (sym (read_back s)) (run-asked d h f), words_are_nine s)
  goes_on {given} {d = d} h (ends {s} {t'} f) z =
      (subst (λ (x : State). Run bound lent (d ∷ given) x t') (sym (read_back s)) (run-finished d h f), words_are_nine s)

  host_run : {host : Host} {given : List Float} {words : List ℕ} {t : Tables} → HostRun host bound lent given words t
      → Run bound lent given (state_of words) t × (length words ≡ 9)
  host_run {host} (started {words} {request} e) =
      subst (λ (r : Reply). Run bound lent [] (state_of r.words) lent × (length r.words ≡ 9)) e
      (begins_run (start_said bound lent host.words (host.places 0)) (ap (λ (r : Reply). r.number) e))
  host_run {host} (told {given} {words} {t = t} d h e) =
      subst (λ (x : Effect). Run bound lent (d ∷ given) (state_of x.said.words) x.tables × (length x.said.words ≡ 9)) e
      (goes_on (host_run h).0 (said words d t (host.places (suc (length given)))) (ap (λ (x : Effect). x.said.number) e))

pub is_a_build : IsABuild
is_a_build host bound lent given words t h = (host_run h).0

-- ---- each build is in reach of every host

reach_start : (bound : ℕ) (lent : Tables) (words : List ℕ) (places : Request) → length words ≡ 9
    → (r : Request) (s : State) → start_of bound lent ≡ Ok (Ask r s) → start_replies bound lent words places ≡ reply 0 (words_of s) r
unfolding start_of start_at hand_over
reach_start bound lent words places l r s e =
    sym (start_over bound lent words places (Ok (Ask r s)) (reply 0 (words_of s) r) (low (ltb limit bound) refl (request_of 1) _ e) l (sym e) refl)
  where
    low : (b : Bool) → ltb limit bound ≡ b → (q : Request) (x : State) → cond {A = Result Answer Refusal} b (Err AboveFifteen) (Ok (Ask q x)) ≡ Ok (Ask r s) → bound ≤ limit
    low true f q x e = absurd (answered (Ask r s) AboveFifteen (sym e))
    low false f q x e = ltb-false limit bound f

-- what the build answers is handed over from the words of its state
reach_on : (s : State) (d : Float) (t : Tables) (places : Request) (a : Result Answer Refusal) (t' : Tables) → distance_of s d t ≡ outcome a t'
    → distance_effect (words_of s) d t places ≡ effect (hand_over a (words_of s) places) t'
reach_on s d t places a t' e =
    sym (distance_over (words_of s) d t places a t' (hand_over a (words_of s) places) (words_are_nine s)
    (sym (ap (λ (x : State). distance_of x d t) (read_back s) ∙ e)) refl)

module _ (host : Host) (nine : length host.words ≡ 9) {bound : ℕ} {lent : Tables} where
  reach : {given : List Float} {s : State} {t : Tables} → Run bound lent given s t → HostRun host bound lent given (words_of s) t
  unfolding hand_over
  reach (run-started {r} {s} e) = started (reach_start bound lent host.words (host.places 0) nine r s e)
  reach (run-asked {given} {r} {s} {s'} {t} {t'} d h e) = told d (reach h) (reach_on s d t (host.places (suc (length given))) (Ok (Ask r s')) t' e)
  reach (run-finished {given} {s} {s'} {t} {t'} d h e) = told d (reach h) (reach_on s d t (host.places (suc (length given))) (Ok (Finished s')) t' e)

pub in_reach : InReach
in_reach host nine bound lent given s t h = reach host nine h

-- ---- the demands

told_read : (words : List ℕ) → length words ≡ 9 → Told words (state_of words)
told_read words l = subst (λ (w : List ℕ). Told w (state_of words)) (written_back words l) (words_told (state_of words))

-- what a number says is refused, is
is_refusal : (b : Result ⊤ Refusal) (k : Refusal) → number_of b ≡ number k → b ≡ Err k
is_refusal (Ok u) k e = absurd (some_number k (sym e))
is_refusal (Err j) k e = ap Err (number_apart j k e)

pub hosts_building : HostsBuilding
unfolding lengths_of distance_of
hosts_building host bound lent given words t h =
    let r = host_run h in
    let s = state_of words in
    let a = building bound lent given s t r.0 in
    let k = run_traced r.0 in
    let w = told_read words r.1 in
    let at : (d : Float) (places : Request) → returned words d t places ≡ number_of (refusal_of s (split_of s d) d t) = λ d places. number_is words d t places r.1 in
    record {
      after = a;
      nine = r.1;
      told = w;
      word_0 = w.bound ∙ k.bound_same;
      word_1 = w.nodes ∙ a.nodes;
      word_2 = sym (rw w.leaves (leaves_count s t k));
      word_3_ends = λ e d places. at d places ∙ ap number_of (asks_nothing s (split_of s d) d t a.fitting (sym w.asked ∙ e));
      word_3_asks = λ d places e. w.asked ∙ nothing_asked s (split_of s d) d t (is_refusal _ NothingAsked (sym (at d places) ∙ e));
      word_4 = w.keys_length ∙ ap (λ (z : Lengths). z.keys) k.lengths_same;
      word_5 = w.distances_length ∙ ap (λ (z : Lengths). z.distances) k.lengths_same;
      word_6 = w.firsts_length ∙ ap (λ (z : Lengths). z.firsts) k.lengths_same;
      word_7 = w.leaves_length ∙ ap (λ (z : Lengths). z.leaves) k.lengths_same;
      word_8 = w.queue_length ∙ ap (λ (z : Lengths). z.queue) k.lengths_same;
      never_10 = λ d places e.
          a.never_10 d NotFitting (ap (λ (o : Outcome). o.answer) (sym (refused s (split_of s d) d t NotFitting (is_refusal _ NotFitting (sym (at d places) ∙ e))))) refl;
      broken_16 = λ asks d places f. at d places ∙ ap number_of (refusal_broken s (split_of s d) d t a.fitting (λ z. asks (w.asked ∙ z)) f);
      only_16 = λ d places e. refusal_16 s (split_of s d) d t (is_refusal _ NotFinite (sym (at d places) ∙ e));
    }

pub hosts_queue_of_64 : HostsQueueOf64
hosts_queue_of_64 host bound lent given nine low room leaves queue l all =
    let r = queue_of_64 bound lent given low room leaves queue l all in
    (words_of r.0, r.1, reach host nine r.2, (words_told r.0).asked ∙ r.3)

-- from what the calls on a tree answer to what they hand over
module _ {D : ℕ} {tree : Tree} (sound : Sound tree) (h : Reading D tree) where
  refused_12 : (start : ℕ) (k : Refusal) (before left : Lists) → ListSays tree start before left (Err k) → number k ≡ 12
  refused_12 start k before left (_, why) = ⊎_elim (λ x. absurd (x.0 sound)) (λ x. ap number x.2) why

  listed : (start count was : ℕ) (before left : Lists) → HandsList tree start before left was 0 count → ListSays tree start before left (Ok count)
  listed start count was before left (Ok n, says, (_, e)) = subst (λ (m : ℕ). ListSays tree start before left (Ok m)) (sym e) says
  listed start count was before left (Err k, says, (z, _)) = absurd (omega (arith, z, refused_12 start k before left says))

  full : (start count was k : ℕ) (before left : Lists) → HandsList tree start before left was k count → (k ≡ 0 → ⊥) → k ≡ 12
  full start count was k before left (Ok n, says, (z, _)) some = absurd (some z)
  full start count was k before left (Err m, says, (z, _)) some = z ∙ refused_12 start m before left says

  eight_entries : (v k : ℕ) (then out : Eight) (a : Dual) → LeafCell D tree v a → HandsEight a.keys a.distances a.places a.tried then k out
      → (k ≡ 0) × LeafCell D tree v (dual_in out)
  eight_entries v k then out a c = go a.tried refl
    where
      go : (b : Result ℕ Refusal) → a.tried ≡ b → HandsEight a.keys a.distances a.places b then k out → (k ≡ 0) × LeafCell D tree v (dual_in out)
      go (Ok n) e (z, o) = (
        z,
        record {
          answered = λ m f. let z : ◌≡◌ {A = ℕ} 0 1 = cc in omega arith;
          entry = subst (λ (x : Eight). (i : ℕ) → i < 8 → HoldsAlone D tree (side_of D v i) (get_or x.keys i 0) (get_or x.distances i nan) (get_or x.places i 0)) (sym o) c.entry;
        },
      )
      go (Err m) e _ = absurd (c.answered m e)

  span : (s v k : ℕ) (then out : Span) (a : Result Reach Refusal) → HasVertex s v a → HandsSpan a then k out → (k ≡ 0) × HasVertex s v (slabs-reached out.first out.last)
  span s v k then out (Ok y) has (z, o) = (z, subst (λ (x : Span). HasVertex s v (slabs-reached x.first x.last)) (sym o) has)
  span s v k then out (Err m) has _ = absurd has

  hosts_reading : HostsReading D tree
  hosts_reading =
      record {
        list = λ start count was before left x. h.list start count before left (listed start count was before left x);
        room = full;
        dual = λ start count was before left x j k l then out (a, says, y).
            eight_entries _ k then out a (h.dual start count before left (listed start count was before left x) j l a says) y;
        slabs = λ start count was before left x j k s l e then out (a, says, y).
            span s _ k then out a ((slabs_of_trees tree).vertex start count before left (listed start count was before left x) j l s e a says) y;
      }

pub hosts_finished : HostsFinished
unfolding state_of
hosts_finished host bound lent given words t h done =
    let r = host_run h in
    let f = of_finished_builds bound lent given (state_of words) t r.0 done in
    (f.0, f.1, hosts_reading f.0 f.1)

-- ---- what is returned

pub start_returns : StartReturns
unfolding start_replies start_of start_at hand_over
start_returns bound t words places = (
  λ h. ap (λ (r : Reply). r.number) (sym (start_deep bound t words places h)),
  λ h n. ap (λ (r : Reply). r.number) (sym (start_wordless bound t words places h n)),
  λ h l. rw (le-ltb limit bound h, eq-eqb (length words) 9 l) refl,
)

pub distance_returns : DistanceReturns
distance_returns words d t places = (λ n. ap (λ (x : Effect). x.said.number) (sym (distance_wordless words d t places n)), λ l. number_is words d t places l)

-- ---- what stands in a host's places

module _ {bound : ℕ} {t : Tables} {words : List ℕ} {places : Request} where
  start_kept : {r : Reply} → StartSaid bound t words places r → (r.number ≡ 0 → ⊥) → (r.words ≡ words) × (r.request ≡ places)
  start_kept (declines _) n = (refl, refl)
  start_kept (begins _ _) n = absurd (n refl)

  start_requests : {r : Reply} → StartSaid bound t words places r → r.number ≡ 0 → Requests r.words places r.request
  start_requests (declines n) z = absurd (n z)
  start_requests (begins {s} _ one) z =
      record {
        asks = λ _. ap request_of (sym ((words_told s).asked ∙ one));
        ends = λ none. absurd (omega (arith, (words_told s).asked, one));
      }

pub refused_start : RefusedStart
refused_start bound k t words words' places request e n =
    let kept : (k ≡ 0 → ⊥) → (words' ≡ words) × (request ≡ places) =
    subst (λ (r : Reply). (r.number ≡ 0 → ⊥) → (r.words ≡ words) × (r.request ≡ places)) e (start_kept (start_said bound t words places)) in
    kept n

pub requested_at_start : StartRequests
requested_at_start bound t words words' places request e =
    subst (λ (r : Reply). r.number ≡ 0 → Requests r.words places r.request) e (start_requests (start_said bound t words places)) refl

module _ {words : List ℕ} {d : Float} {t : Tables} {places : Request} where
  distance_kept : {x : Effect} → Said words d t places x → (x.said.number ≡ 0 → ⊥)
      → (x.said.words ≡ words) × (x.said.request ≡ places) × (x.tables ≡ t)
  distance_kept (refuses _) n = (refl, refl, refl)
  distance_kept (asks _) n = absurd (n refl)
  distance_kept (ends _) n = absurd (n refl)

pub refused_distance : RefusedDistance
refused_distance k d t t' words words' places request e n =
    let kept : (k ≡ 0 → ⊥) → (words' ≡ words) × (request ≡ places) × (t' ≡ t) =
    subst (λ (x : Effect). (x.said.number ≡ 0 → ⊥) → (x.said.words ≡ words) × (x.said.request ≡ places) × (x.tables ≡ t)) e
    (distance_kept (said words d t places)) in
    kept n

module _ {bound : ℕ} {lent : Tables} {given : List Float} {words : List ℕ} {d : Float} {t : Tables} {places : Request} where
  distance_requests : {x : Effect} → Run bound lent given (state_of words) t → Said words d t places x → x.said.number ≡ 0
      → Requests x.said.words places x.said.request
  distance_requests h (refuses n) z = absurd (n z)
  distance_requests h (asks {r} {s} {t'} f) z =
      let a : Asks r s = distance_asks (state_of words) d t r s (ap (λ (o : Outcome). o.answer) f) in
      record {
        asks = λ _. a.request ∙ ap request_of (sym (words_told s).asked);
        ends = λ none. absurd (omega (arith, a.waited, count_done s t' (run_traced (run-asked d h f)) (sym (words_told s).asked ∙ none)));
      }
  distance_requests h (ends {s} f) z =
      record {
        asks = λ some. absurd (some ((words_told s).asked ∙ distance_ends (state_of words) d t s (ap (λ (o : Outcome). o.answer) f)));
        ends = λ _. refl;
      }

pub requested_at_distance : DistanceRequests
requested_at_distance host bound lent given words words' d t t' places request h e =
    subst (λ (x : Effect). x.said.number ≡ 0 → Requests x.said.words places x.said.request) e
    (distance_requests (host_run h).0 (said words d t places)) refl

-- ---- a copy brought back

module _ (words : List ℕ) (d : Float) (t : Tables) (before later : Request) where
  handed_alike : (a : Result Answer Refusal) (t' : Tables) → distance_of (state_of words) d t ≡ outcome a t'
      → Alike (effect (hand_over a words before) t') (effect (hand_over a words later) t')
  unfolding hand_over
  handed_alike (Ok (Ask r s)) t' e = record { number = refl; words = refl; tables = refl; request = λ _ _. refl }
  handed_alike (Ok (Finished s)) t' e =
      record {
        number = refl;
        words = refl;
        tables = refl;
        request = λ _ n. absurd (n ((words_told s).asked ∙ distance_ends (state_of words) d t s (ap (λ (o : Outcome). o.answer) e)));
      }
  handed_alike (Err k) t' e =
      record { number = refl; words = refl; tables = refl; request = λ z _. absurd (some_number k z) }

pub brought_back_later : BroughtBackLater
unfolding distance_effect effect_of
brought_back_later words d t before later = go (eqb (length words) 9)
  where
    go : (b : Bool)
        → Alike (cond (not b) (effect (reply 10 words before) t) (effect_of (distance_of (state_of words) d t) words before))
        (cond (not b) (effect (reply 10 words later) t) (effect_of (distance_of (state_of words) d t) words later))
    go false = record { number = refl; words = refl; tables = refl; request = λ z _. absurd (omega (arith, z)) }
    go true = handed_alike words d t before later (distance_of (state_of words) d t).answer (distance_of (state_of words) d t).tables refl

accepted_is : (x : Effect) (words : List ℕ) (t : Tables) → x.said.number ≡ 0 → x.said.words ≡ words → x.tables ≡ t
    → x ≡ effect (reply 0 words x.said.request) t
accepted_is x words t n w e = rw (← n, ← w, ← e) refl

pub goes_on_as_before : GoesOnAsBefore
goes_on_as_before host bound lent given words words' d t t' later request h e =
    let a = brought_back_later words d t (host.places (suc (length given))) later in
    told d h
    (accepted_is _ words' t' (a.number ∙ ap (λ (x : Effect). x.said.number) e) (a.words ∙ ap (λ (x : Effect). x.said.words) e)
    (a.tables ∙ ap (λ (x : Effect). x.tables) e))

pub brought_back_anywhere : BroughtBackAnywhere
brought_back_anywhere host other nine bound lent given words t h =
    let r = host_run h in
    subst (λ (w : List ℕ). HostRun other bound lent given w t) (written_back words r.1) (reach other nine r.0)
