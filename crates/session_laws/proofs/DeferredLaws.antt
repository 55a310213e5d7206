-- Composites that were kept are read in order, or wait.
use Rattle.std.proofs.Common.{◌≡◌, ℕ, Bool, true, false, cond, ◌||◌, List, [], ◌∷◌, ◌++◌, Option, Some, None, refl, sym}
use Rattle.std.proofs.Common.{ap, ◌∙◌, append_assoc, append-nil, arith}
use Rattle.std.proofs.lemmas.List.Concat.{flat_map-append}
use Rattle.std.specs.List.{flat_map}
use Rattle.machine_model.specs.Due.{Picked, passed_by, pick}
use Rattle.machine_model.specs.Runs.{Message, Run}
use Rattle.machine_model.specs.State.{Machine, has_raw, is_gone, is_raw, is_some}
use Rattle.machine_steps.proofs.RequestSteps.{near_before}
use Rattle.machine_steps.proofs.Stepping.{Loses, Moves, by_moves, with_said}
use Rattle.session_model.specs.Names.{a_composite, a_raw, a_request, Item, target_end}
use Rattle.session_laws.specs.Replies.{AreKept, kept_by, raw_in, read_by}
use Rattle.session_laws.proofs.Steps.{flat_map_one_more, flat_map_same}

abbrev Raws : Type 0
Raws = List (ℕ × List ℕ)

-- Items that are picked -----------------------------------------------------------------------------------------------

not_raw : (item : Item) → is_raw item ≡ false → raw_in item ≡ []
not_raw item is = grind (arith, is)

-- a target that isn't gone leaves the raw ones where they are
picked_near : (items : List Item) (picked : Picked) → pick false items ≡ Some picked
    → flat_map raw_in items ≡ flat_map raw_in picked.rest
picked_near [] picked is = cc
picked_near (item ∷ items) picked is =
    by_raw (is_raw item) refl (pick false items) (λ other are. picked_near items other are) is
  where
    by_raw : (raw : Bool) → is_raw item ≡ raw → (others : Option Picked)
        → ((other : Picked) → others ≡ Some other → flat_map raw_in items ≡ flat_map raw_in other.rest)
        → cond raw (passed_by item others) (Some (record { item = item; rest = items })) ≡ Some picked
        → flat_map raw_in (item ∷ items) ≡ flat_map raw_in picked.rest
    by_raw false none others rest now =
        let one : record { item = item; rest = items } ≡ picked = cc in
        ap (λ first. first ++ flat_map raw_in items) (not_raw item none) ∙ ap (λ p. flat_map raw_in p.rest) one
    by_raw true raw None rest now = cc
    by_raw true raw (Some other) rest now =
        let one : record { item = other.item; rest = item ∷ other.rest } ≡ picked = cc in
        ap (λ more. raw_in item ++ more) (rest other refl) ∙ ap (λ p. flat_map raw_in p.rest) one

-- one that is gone takes the first
picked_gone : (items : List Item) (picked : Picked) → pick true items ≡ Some picked
    → flat_map raw_in items ≡ raw_in picked.item ++ flat_map raw_in picked.rest
picked_gone [] picked is = cc
picked_gone (item ∷ items) picked is =
    let one : record { item = item; rest = items } ≡ picked = cc in
    ap (λ p. raw_in p.item ++ flat_map raw_in p.rest) one

none_before : (items : List Item) → has_raw items ≡ false → flat_map raw_in items ≡ []
none_before [] is = refl
none_before (item ∷ items) is =
    let (here, later) = by_tests (is_raw item) (has_raw items) is in
    ap (λ first. first ++ flat_map raw_in items) (not_raw item here) ∙ none_before items later
  where
    by_tests : (here later : Bool) → (here || later) ≡ false → (here ≡ false) × (later ≡ false)
    by_tests true later is = cc
    by_tests false later is = (refl, is)

-- where a composite can be read, the target isn't gone
read_near : (gone sized raw : Bool) → cond gone false (cond sized raw false) ≡ true → gone ≡ false
read_near true sized raw is = cc
read_near false sized raw is = refl

-- Steps ---------------------------------------------------------------------------------------------------------------

-- what a step does to those that wait: nothing; one more waits, or the first was read; or the first is dropped
data Defers (m next : Machine) (said : Option Message) : Type 0 where
  stays : flat_map kept_by (with_said [] said) ≡ [] → flat_map read_by (with_said [] said) ≡ []
      → flat_map raw_in next.waiting ≡ flat_map raw_in m.waiting → Defers m next said
  keeps : (one : ℕ × List ℕ) → flat_map kept_by (with_said [] said) ≡ one ∷ []
      → flat_map read_by (with_said [] said) ≡ []
      → flat_map raw_in next.waiting ≡ flat_map raw_in m.waiting ++ one ∷ [] → Defers m next said
  reads : (one : ℕ × List ℕ) → is_gone m.state.phase ≡ false → flat_map kept_by (with_said [] said) ≡ []
      → flat_map read_by (with_said [] said) ≡ one ∷ []
      → flat_map raw_in m.waiting ≡ one ∷ flat_map raw_in next.waiting → Defers m next said
  drops : (some : Raws) → is_gone next.state.phase ≡ true → flat_map kept_by (with_said [] said) ≡ []
      → flat_map read_by (with_said [] said) ≡ []
      → flat_map raw_in m.waiting ≡ some ++ flat_map raw_in next.waiting → Defers m next said

begun_by : (m : Machine) (picked : Picked) (next : Machine) (gone : Bool) → is_gone m.state.phase ≡ gone
    → is_gone next.state.phase ≡ gone → next.waiting ≡ picked.rest → pick gone m.waiting ≡ Some picked
    → Defers m next None
begun_by m picked next false near after rest is =
    Defers.stays refl refl (ap (λ items. flat_map raw_in items) rest ∙ sym (picked_near m.waiting picked is))
begun_by m picked next true far after rest is =
    Defers.drops (raw_in picked.item) after refl refl (picked_gone m.waiting picked is
    ∙ ap (λ items. raw_in picked.item ++ flat_map raw_in items) (sym rest))

-- one more item that isn't raw
more_waits : (m : Machine) (item : Item) → raw_in item ≡ []
    → flat_map raw_in (m.waiting ++ item ∷ []) ≡ flat_map raw_in m.waiting
more_waits m item none = flat_map_same raw_in m.waiting item none

defers_by : (m next : Machine) (said : Option Message) → Moves m said next → Defers m next said
defers_by m next said (Moves.begins picked free none is) =
    begun_by m picked next (is_gone m.state.phase) refl refl refl is
defers_by m next said (Moves.hears {request} read is_open) =
    Defers.stays refl refl (more_waits m (a_request request) refl)
defers_by m next said (Moves.loses late near Loses.by_end) = Defers.stays refl refl (more_waits m target_end refl)
defers_by m next said (Moves.loses late near (Loses.by_question held waits reply last)) =
    Defers.stays refl refl (more_waits m target_end refl)
defers_by m next said (Moves.loses late near (Loses.by_effect held flying reply last)) =
    Defers.stays refl refl (more_waits m target_end refl)
defers_by m next said (Moves.comes {at} {composite} read sized taken) =
    Defers.stays refl refl (more_waits m (a_composite at composite) refl)
defers_by m next said (Moves.keeps {at} {body} unsized) =
    Defers.keeps (at, body) refl refl (flat_map_one_more raw_in m.waiting (a_raw at body))
defers_by m next said (Moves.reads {at} {body} {composite} before after read waits none taken) =
    Defers.reads (at, body)
    (read_near (is_gone m.state.phase) (is_some m.state.sizes) (has_raw m.waiting) read) refl refl
    (ap (λ items. flat_map raw_in items) waits ∙ flat_map-append raw_in before (a_raw at body ∷ after)
    ∙ ap (λ first. first ++ (at, body) ∷ flat_map raw_in after) (none_before before none)
    ∙ ap (λ rest. (at, body) ∷ rest) (sym (flat_map-append raw_in before (a_composite at composite ∷ after)
    ∙ ap (λ first. first ++ flat_map raw_in after) (none_before before none))))
defers_by m next said _ = Defers.stays refl refl refl

kept_more : (messages : List Message) (said : Option Message) (f : Message → Raws)
    → flat_map f (with_said messages said) ≡ flat_map f messages ++ flat_map f (with_said [] said)
kept_more messages None f = sym (append-nil (flat_map f messages))
kept_more messages (Some message) f = flat_map-append f messages (message ∷ [])

module _ (messages : List Message) (m next : Machine) (said : Option Message) (moves : Moves m said next)
    (h : AreKept messages m) where
  now_kept : (kept : Raws) → flat_map kept_by (with_said [] said) ≡ kept
      → flat_map kept_by (with_said messages said)
      ≡ ((flat_map read_by messages ++ h.dropped) ++ flat_map raw_in m.waiting) ++ kept
  now_kept kept is = kept_more messages said kept_by ∙ ap (λ more. flat_map kept_by messages ++ more) is
      ∙ ap (λ before. before ++ kept) h.kept

  now_read : (read : Raws) → flat_map read_by (with_said [] said) ≡ read
      → flat_map read_by messages ++ read ≡ flat_map read_by (with_said messages said)
  now_read read is = sym (kept_more messages said read_by ∙ ap (λ more. flat_map read_by messages ++ more) is)

  was_near : is_gone next.state.phase ≡ false → h.dropped ≡ []
  was_near near = h.of_gone (near_before m next said moves near)

  kept_on : Defers m next said → AreKept (with_said messages said) next
  kept_on (Defers.stays none_kept none_read same) = record {
    dropped = h.dropped;
    kept = now_kept [] none_kept ∙ append-nil _
        ∙ ap (λ read. (read ++ h.dropped) ++ flat_map raw_in m.waiting)
        (sym (append-nil (flat_map read_by messages)) ∙ now_read [] none_read)
        ∙ ap (λ raws. (flat_map read_by (with_said messages said) ++ h.dropped) ++ raws) (sym same);
    of_gone = was_near;
  }
  kept_on (Defers.keeps one is none_read more) = record {
    dropped = h.dropped;
    kept = now_kept (one ∷ []) is
        ∙ append_assoc (flat_map read_by messages ++ h.dropped) (flat_map raw_in m.waiting) (one ∷ [])
        ∙ ap (λ raws. (flat_map read_by messages ++ h.dropped) ++ raws) (sym more)
        ∙ ap (λ read. (read ++ h.dropped) ++ flat_map raw_in next.waiting)
        (sym (append-nil (flat_map read_by messages)) ∙ now_read [] none_read);
    of_gone = was_near;
  }
  kept_on (Defers.reads one near none_kept is first) =
      let none = h.of_gone near in
      record {
        dropped = [];
        kept = now_kept [] none_kept ∙ append-nil _
            ∙ ap (λ dropped. (flat_map read_by messages ++ dropped) ++ flat_map raw_in m.waiting) none
            ∙ ap (λ read. read ++ flat_map raw_in m.waiting) (append-nil (flat_map read_by messages))
            ∙ ap (λ raws. flat_map read_by messages ++ raws) first
            ∙ sym (append_assoc (flat_map read_by messages) (one ∷ []) (flat_map raw_in next.waiting))
            ∙ ap (λ read. read ++ flat_map raw_in next.waiting)
            (now_read (one ∷ []) is ∙ sym (append-nil (flat_map read_by (with_said messages said))));
        of_gone = λ _. refl;
      }
  kept_on (Defers.drops some far none_kept none_read first) = record {
    dropped = h.dropped ++ some;
    kept = now_kept [] none_kept ∙ append-nil _
        ∙ ap (λ raws. (flat_map read_by messages ++ h.dropped) ++ raws) first
        ∙ sym (append_assoc (flat_map read_by messages ++ h.dropped) some (flat_map raw_in next.waiting))
        ∙ ap (λ all. all ++ flat_map raw_in next.waiting) (append_assoc (flat_map read_by messages) h.dropped some)
        ∙ ap (λ read. (read ++ (h.dropped ++ some)) ++ flat_map raw_in next.waiting)
        (sym (append-nil (flat_map read_by messages)) ∙ now_read [] none_read);
    of_gone = λ near. let no : true ≡ false = sym far ∙ near in cc;
  }

pub are_kept : {messages : List Message} {m : Machine} → Run messages m → AreKept messages m
are_kept r = by_moves {Holds = AreKept} (record {
  starts = record { dropped = []; kept = refl; of_gone = λ _. refl };
  moves = λ messages m next said h moves. kept_on messages m next said moves h (defers_by m next said moves);
  queues = λ messages m hand queue may h. record { dropped = h.dropped; kept = h.kept; of_gone = h.of_gone };
}) r
