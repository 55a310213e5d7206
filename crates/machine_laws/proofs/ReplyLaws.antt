-- At rest each wish was set once, and stands as the target replied.
use Rattle.std.proofs.Common.{◌≡◌, ℕ, Bool, true, false, cond, not, ◌||◌, List, [], ◌∷◌, ◌++◌, Option, Some, None, refl}
use Rattle.std.proofs.Common.{sym, ap, subst, ◌∙◌, append-nil, arith}
use Rattle.std.specs.Ordering.{on}
use Rattle.jdwp_commands.specs.Answers.{kind_of_answer}
use Rattle.jdwp_commands.specs.declared.answer.Answer.TheVariants as answers
use Rattle.jdwp_commands.specs.declared.kind.CommandKind.TheVariants as kinds
use Rattle.jdwp_commands.specs.declared.kind.EffectKind.TheVariants as effect_kinds
use Rattle.machine_model.specs.EventRequests.{IsAsReplied, StandsAsReplied, is_set_of, refused_by_effect, requests_of}
use Rattle.machine_model.specs.EventRequests.{about_set, set_since}
use Rattle.machine_model.specs.Replying.{IsReply}
use Rattle.machine_model.specs.Requests.{Wishes, request_in, set_to, wishes_after, effect_due}
use Rattle.machine_model.specs.Rest.{IsAtRest}
use Rattle.machine_model.specs.Runs.{Message, Run}
use Rattle.machine_model.specs.State.{Hand, Machine, SizesRead, is_gone}
use Rattle.machine_steps.specs.Names.{Answer, Attached, Clear, Effect, Part, Replied, Set, an_answer, an_effect}
use Rattle.machine_steps.proofs.RequestLaws.{IsDue, Settling, settles, settling, step_of, was_due}
use Rattle.machine_steps.proofs.RequestSteps.{Step, flying_in, is_deed, near_before, parts_left, says_aside}
use Rattle.machine_laws.proofs.StandLaws.{refused_replied}
use Rattle.machine_steps.proofs.Stepping.{Moves, moved, gone_on}
use Rattle.machine_steps.proofs.WishLemmas.{due_clear, left_inserted, left_same, new_set_due, none_left}
use Rattle.machine_steps.proofs.WishLemmas.{none_due_change}
use Rattle.wish_sets.proofs.NextLaws.{surplus_clear}
use Rattle.wish_sets.proofs.OrderLaws.{any-insert}
use Rattle.wish_sets.proofs.WishLaws.{alike, alike_requests, equal_is, filter-insert, is_itself}
use Rattle.wish_sets.specs.Order.{has_wish, is_wish, wish_cmp}
use Rattle.wish_sets.specs.Tidy.{IsNewSet, IsTidy}
use Rattle.wish_sets.specs.Wanted.{Wanted}
use Rattle.wish_sets.specs.Wished.{wished}
use Rattle.wish_sets.specs.Wishes.{EventRequest, is_installed, rewished}
use Rattle.wish_sets.specs.declared.wish.Wish.{Wish}
use Rattle.machine_model.specs.Due.{due}
use Rattle.wish_sets.proofs.TidyLaws.{kept_refusals}
use Rattle.wish_sets.proofs.LeftLaws.{at_rest}

-- What a reply says of a wish -----------------------------------------------------------------------------------------

-- what a wish stands by: its requests, and whether it was refused
abbrev pub Stays : Wish → Wishes → Wishes → Type 0
Stays wish now w = (requests_of wish now.installed ≡ requests_of wish w.installed)
    × (has_wish now.refused wish ≡ has_wish w.refused wish)

-- nothing is installed of a wish, and it wasn't refused
abbrev pub IsUnset : Wish → Wishes → Type 0
IsUnset wish w = (requests_of wish w.installed ≡ []) × (has_wish w.refused wish ≡ false)

pub new_unset : (w : Wishes) (wish : Wish) → IsNewSet w wish → IsUnset wish w
new_unset w wish new = (none_left (λ one. is_wish wish one.wish) w.installed new.not_installed, new.not_refused)

-- what is replied to another effect changes nothing of a wish that is wished
other_installed : (w : Wishes) (parts : List Part) (effect : Effect) (replied : Replied) (wish : Wish)
    → IsDue w parts (Some effect) → has_wish (wished w.wanted) wish ≡ true → is_set_of wish effect ≡ false
    → requests_of wish (wishes_after effect replied w).installed ≡ requests_of wish w.installed
other_installed w parts (Set one) replied wish due asked other = by_id (request_in replied)
  where
    by_id : (found : Option ℕ) → requests_of wish (set_to found one w).installed ≡ requests_of wish w.installed
    by_id None = refl
    by_id (Some request) = filter-insert (λ (r : EventRequest). is_wish wish r.wish)
        (on (λ (r : EventRequest). r.wish) wish_cmp) (record { wish = one; request = request }) w.installed other
other_installed w parts (Clear one request) (an_answer answer) wish due asked other =
    left_same (λ (r : EventRequest). is_wish wish r.wish) (λ r. not (is_wish one r.wish)) kept w.installed
  where
    unwished : has_wish (wished w.wanted) one ≡ false
    unwished = surplus_clear w (record { wish = one; request = request }) (due_clear w one request (due refl).0)

    not_true : (b : Bool) → (b ≡ true → false ≡ true) → not b ≡ true
    not_true true h = absurd (let g = h refl in cc)
    not_true false h = refl

    kept : (r : EventRequest) → is_wish wish r.wish ≡ true → not (is_wish one r.wish) ≡ true
    kept r is = not_true (is_wish one r.wish) (λ same.
        sym unwished ∙ ap (has_wish (wished w.wanted)) (equal_is one r.wish same ∙ sym (equal_is wish r.wish is))
        ∙ asked)
other_installed w parts _ _ wish due asked other = refl

pub other_stays : (sizes : Option SizesRead) (w : Wishes) (parts : List Part) (effect : Effect) (replied : Replied)
    (wish : Wish) → IsDue w parts (Some effect) → IsReply sizes (an_effect effect) replied
    → has_wish (wished w.wanted) wish ≡ true → is_set_of wish effect ≡ false
    → Stays wish (wishes_after effect replied w) w
other_stays sizes w parts effect replied wish due reply asked other = (
  other_installed w parts effect replied wish due asked other,
  refused_replied sizes w parts effect replied wish due reply ∙ as_it_was effect other,
)
  where
    as_it_was : (effect : Effect) → is_set_of wish effect ≡ false
        → refused_by_effect wish effect replied (has_wish w.refused wish)
        ≡ has_wish w.refused wish
    as_it_was effect other = grind (arith, other)

-- what is replied to the Set of a wish is what stands of it
set_answered : (w : Wishes) (wish : Wish) (answer : Answer) → IsNewSet w wish
    → kind_of_answer answer ≡ kinds.Effect effect_kinds.Set
    → IsAsReplied (set_to (request_in (an_answer answer)) wish w) wish (an_answer answer)
set_answered w wish (answers.Set request) new is = IsAsReplied.installed
    (left_inserted (λ (r : EventRequest). is_wish wish r.wish) (on (λ (r : EventRequest). r.wish) wish_cmp)
    (alike_requests wish) (record { wish = wish; request = request }) w.installed (is_itself wish)
    (new_unset w wish new).0) new.not_refused
set_answered w wish _ new is = absurd (cc)

pub set_replied : (sizes : Option SizesRead) (w : Wishes) (wish : Wish) (replied : Replied) → IsNewSet w wish
    → IsReply sizes (an_effect (Set wish)) replied → IsAsReplied (wishes_after (Set wish) replied w) wish replied
set_replied sizes w wish replied new (IsReply.with_answer {answer} used serves is good) =
    set_answered w wish answer new is.row
set_replied sizes w wish replied new (IsReply.with_error some tolerated) = IsAsReplied.refused (new_unset w wish new).0
    (any-insert wish_cmp (is_wish wish) (alike wish) wish w.refused ∙ rw (is_itself wish) refl)

pub not_unset : {w : Wishes} {wish : Wish} {replied : Replied} → IsAsReplied w wish replied → ¬ (IsUnset wish w)
not_unset (IsAsReplied.installed is fine) u = let no = sym is ∙ u.0 in cc
not_unset (IsAsReplied.refused none is) u = let no : true ≡ false = sym is ∙ u.1 in cc

still_said : {now w : Wishes} {wish : Wish} {replied : Replied} → Stays wish now w → IsAsReplied w wish replied
    → IsAsReplied now wish replied
still_said stays (IsAsReplied.installed is fine) = IsAsReplied.installed (stays.0 ∙ is) (stays.1 ∙ fine)
still_said stays (IsAsReplied.refused none is) = IsAsReplied.refused (stays.0 ∙ none) (stays.1 ∙ is)

-- How far the Set of a wish is ----------------------------------------------------------------------------------------

abbrev flies_set : Wish → Option Effect → Bool
flies_set wish None = false
flies_set wish (Some effect) = is_set_of wish effect

abbrev sending : Wish → Message
sending wish = Message.sends (an_effect (Set wish))

-- Of the Set of a wish there is no message, and nothing stands; or it is in flight; or it was replied to, and the wish
-- stands so.
data IsTold (wish : Wish) (w : Wishes) (flying : Option Effect) : List Message → Type 0 where
  unset : IsUnset wish w → flies_set wish flying ≡ false → IsTold wish w flying []
  flies : flying ≡ Some (Set wish) → IsTold wish w flying (sending wish ∷ [])
  replied : {reply : Replied} → IsAsReplied w wish reply
      → IsTold wish w flying (sending wish ∷ Message.answers (an_effect (Set wish)) reply ∷ [])

pub set_is : (wish : Wish) (effect : Effect) → is_set_of wish effect ≡ true → effect ≡ Set wish
set_is wish (Set one) is = ap Set (sym (equal_is wish one is))
set_is wish _ is = cc

abbrev about : Wish → Effect → Message → List Message
about wish effect message = cond (is_set_of wish effect) (message ∷ []) []

told_sends : (wish : Wish) (w : Wishes) (effect : Effect) (messages : List Message) → IsTold wish w None messages
    → (effect ≡ Set wish → IsUnset wish w)
    → IsTold wish w (Some effect) (messages ++ about wish effect (Message.sends (an_effect effect)))
told_sends wish w effect messages told new = by_test (is_set_of wish effect) refl messages told
  where
    by_test : (b : Bool) → is_set_of wish effect ≡ b → (messages : List Message) → IsTold wish w None messages
        → IsTold wish w (Some effect) (messages ++ cond b (Message.sends (an_effect effect) ∷ []) [])
    by_test true is messages (IsTold.unset u idle) =
        subst (λ (effect : Effect). IsTold wish w (Some effect) (Message.sends (an_effect effect) ∷ []))
        (sym (set_is wish effect is)) (IsTold.flies refl)
    by_test true is messages (IsTold.replied says) = absurd (not_unset says (new (set_is wish effect is)))
    by_test false is messages (IsTold.unset u idle) = IsTold.unset u is
    by_test false is messages (IsTold.replied says) = IsTold.replied says
    by_test _ is messages (IsTold.flies same) = absurd (cc)

told_replies : (wish : Wish) (now w : Wishes) (effect : Effect) (reply : Replied) (messages : List Message)
    → IsTold wish w (Some effect) messages → (effect ≡ Set wish → IsUnset wish w × IsAsReplied now wish reply)
    → (is_set_of wish effect ≡ false → Stays wish now w)
    → IsTold wish now None (messages ++ about wish effect (Message.answers (an_effect effect) reply))
told_replies wish now w effect reply messages told new other = by_test (is_set_of wish effect) refl messages told
  where
    by_test : (b : Bool) → is_set_of wish effect ≡ b → (messages : List Message) → IsTold wish w (Some effect) messages
        → IsTold wish now None (messages ++ cond b (Message.answers (an_effect effect) reply ∷ []) [])
    by_test true is messages (IsTold.unset u idle) = absurd (let h : true ≡ false = sym is ∙ idle in cc)
    by_test true is messages (IsTold.flies same) =
        subst (λ (effect : Effect). IsTold wish now None (sending wish ∷ Message.answers (an_effect effect) reply ∷ []))
        (sym (set_is wish effect is)) (IsTold.replied (new (set_is wish effect is)).1)
    by_test true is messages (IsTold.replied says) = absurd (not_unset says (new (set_is wish effect is)).0)
    by_test false is messages (IsTold.unset u idle) =
        let stays = other is in IsTold.unset (stays.0 ∙ u.0, stays.1 ∙ u.1) refl
    by_test false is messages (IsTold.flies same) =
        let e : effect ≡ Set wish = cc in
        absurd (let h : true ≡ false = sym (is_itself wish) ∙ sym (ap (is_set_of wish) e) ∙ is in cc)
    by_test false is messages (IsTold.replied says) = IsTold.replied (still_said (other is) says)

-- what stands of a wish stays
told_stays : {wish : Wish} {now w : Wishes} {messages : List Message} → Stays wish now w → IsTold wish w None messages
    → IsTold wish now None messages
told_stays stays (IsTold.unset u idle) = IsTold.unset (stays.0 ∙ u.0, stays.1 ∙ u.1) refl
told_stays stays (IsTold.flies same) = absurd (cc)
told_stays stays (IsTold.replied says) = IsTold.replied (still_said stays says)

-- One move ------------------------------------------------------------------------------------------------------------

abbrev about_said : Wish → Option Message → List Message
about_said wish None = []
about_said wish (Some message) = about_set wish message

about_aside : (wish : Wish) (said : Option Message) → says_aside said ≡ true → about_said wish said ≡ []
about_aside wish said is = grind (arith, is)

-- what isn't wished has no messages since
unwished_none : {messages : List Message} {m : Machine} (r : Run messages m) (wish : Wish)
    → has_wish (wished m.state.wishes.wanted) wish ≡ false → set_since wish r ≡ []
unfolding set_since
unwished_none Run.starts wish is = refl
unwished_none (Run.queues r may) wish is = unwished_none r wish is
unwished_none _ wish is = rw is refl

pub wanted_replied : (effect : Effect) (reply : Replied) (w : Wishes) → (wishes_after effect reply w).wanted ≡ w.wanted
wanted_replied effect reply w = grind arith

-- once all that is wished is set, what isn't wished is neither installed nor refused
unwished_unset : (w : Wishes) (wish : Wish) → IsTidy w → effect_due w ≡ None → has_wish (wished w.wanted) wish ≡ false
    → IsUnset wish w
unwished_unset w wish tidy none is = (
  none_left (λ one. is_wish wish one.wish) w.installed
      (at_rest w tidy (none_due_change w none) wish ∙ rw is refl),
  by_test (has_wish w.refused wish) refl,
)
  where
    by_test : (refused : Bool) → has_wish w.refused wish ≡ refused → refused ≡ false
    by_test true so = absurd (let no : true ≡ false = sym (tidy.refused_is_wished wish so) ∙ is in cc)
    by_test false so = refl

abbrev Tells : Wish → {messages : List Message} {m : Machine} → Run messages m → Type 0
Tells wish {m = m} r = has_wish (wished m.state.wishes.wanted) wish ≡ true
    → IsTold wish m.state.wishes (flying_in m.hand) (set_since wish r)

told_on : (wish : Wish) {messages : List Message} {m : Machine} (r : Run messages m) (next : Machine)
    (said : Option Message) → Settling m → Step m next said → Tells wish r
    → has_wish (wished next.state.wishes.wanted) wish ≡ true
    → IsTold wish next.state.wishes (flying_in next.hand) (set_since wish r ++ about_said wish said)
told_on wish r next said s (Step.aside quiet same flew left) h asked =
    rw (same, flew, about_aside wish said quiet, append-nil (set_since wish r))
    (h (ap (λ (w : Wishes). has_wish (wished w.wanted) wish) (sym same) ∙ asked))
told_on wish {m = m} r next said s (Step.wants wanted same none now needs) h asked =
    rw (same, now, append-nil (set_since wish r)) (by_test (has_wish (wished m.state.wishes.wanted) wish) refl)
  where
    wished_now : has_wish (wished wanted) wish ≡ true
    wished_now = ap (λ (w : Wishes). has_wish (wished w.wanted) wish) (sym same) ∙ asked

    refused_now : has_wish (rewished wanted m.state.wishes).refused wish ≡ has_wish m.state.wishes.refused wish
    refused_now = kept_refusals wanted m.state.wishes wish ∙ rw wished_now refl

    by_test : (was : Bool) → has_wish (wished m.state.wishes.wanted) wish ≡ was
        → IsTold wish (rewished wanted m.state.wishes) None (set_since wish r)
    by_test true is = told_stays (refl, refused_now)
        (subst (λ (flying : Option Effect). IsTold wish m.state.wishes flying (set_since wish r)) none (h is))
    by_test false is =
        let u = unwished_unset m.state.wishes wish s.tidy (s.set needs) is in
        subst (λ (those : List Message). IsTold wish (rewished wanted m.state.wishes) None those)
        (sym (unwished_none r wish is)) (IsTold.unset (u.0, refused_now ∙ u.1) refl)
told_on wish {m = m} r next said s (Step.sends {effect} same none flew due) h asked =
    rw (same, flew) (told_sends wish m.state.wishes effect (set_since wish r)
    (subst (λ (flying : Option Effect). IsTold wish m.state.wishes flying (set_since wish r)) none
    (h (ap (λ (w : Wishes). has_wish (wished w.wanted) wish) (sym same) ∙ asked)))
    (λ is. new_unset m.state.wishes wish
    (new_set_due m.state.wishes wish ((due (ap is_deed is)).0 ∙ ap Some is))))
told_on wish {m = m} r next said s (Step.replies {effect} {replied} same flew none reply) h asked =
    rw (same, none) (told_replies wish (wishes_after effect replied m.state.wishes) m.state.wishes effect replied
    (set_since wish r)
    (subst (λ (flying : Option Effect). IsTold wish m.state.wishes flying (set_since wish r)) flew (h before))
    set_now (other_stays m.state.sizes m.state.wishes (parts_left m.hand) effect replied wish due reply before))
  where
    before : has_wish (wished m.state.wishes.wanted) wish ≡ true
    before = ap (λ (wanted : Wanted). has_wish (wished wanted) wish)
        (sym (ap (λ (w : Wishes). w.wanted) same ∙ wanted_replied effect replied m.state.wishes)) ∙ asked

    due : IsDue m.state.wishes (parts_left m.hand) (Some effect)
    due = was_due m effect s.awaited flew

    set_now : effect ≡ Set wish
        → IsUnset wish m.state.wishes × IsAsReplied (wishes_after effect replied m.state.wishes) wish replied
    set_now is =
        let new = new_set_due m.state.wishes wish ((due (ap is_deed is)).0 ∙ ap Some is) in (
          new_unset m.state.wishes wish new,
          subst (λ (effect : Effect). IsAsReplied (wishes_after effect replied m.state.wishes) wish replied) (sym is)
              (set_replied m.state.sizes m.state.wishes wish replied new
              (subst (λ (effect : Effect). IsReply m.state.sizes (an_effect effect) replied) is reply)),
        )

told_move : (wish : Wish) {messages : List Message} {m : Machine} (r : Run messages m) (next : Machine)
    (said : Option Message) → Moves m said next → is_gone next.state.phase ≡ false
    → (is_gone m.state.phase ≡ false → Tells wish r)
    → has_wish (wished next.state.wishes.wanted) wish ≡ true
    → IsTold wish next.state.wishes (flying_in next.hand) (set_since wish r ++ about_said wish said)
told_move wish {m = m} r next said moved here h =
    let near = near_before m next said moved here in
    told_on wish r next said (settling r near) (step_of r next said moved here) (h near)

is_told : {messages : List Message} {m : Machine} (r : Run messages m) → is_gone m.state.phase ≡ false → (wish : Wish)
    → Tells wish r
unfolding set_since
is_told Run.starts near wish asked = IsTold.unset (refl, refl) refl
is_told (Run.goes {m} r is) here wish asked =
    rw asked (subst (λ (those : List Message). IsTold wish (due false m).next.state.wishes
    (flying_in (due false m).next.hand) those) (append-nil (set_since wish r))
    (told_move wish r (due false m).next None (gone_on is) here (λ near. is_told r near wish) asked))
is_told (Run.queues {m = m} r may) here wish asked =
    subst (λ (held : Option Hand). IsTold wish m.state.wishes (flying_in held) (set_since wish r)) may.held
    (is_told r here wish asked)
is_told (Run.moves {m} {next} {message} r allows) here wish asked =
    rw asked (told_move wish r next (Some message) (moved allows) here (λ near. is_told r near wish) asked)

-- At rest -------------------------------------------------------------------------------------------------------------

told_at_rest : {messages : List Message} {m : Machine} (r : Run messages m) (wish : Wish) (flying : Option Effect)
    (those : List Message) → flying ≡ None → (¬ (IsUnset wish m.state.wishes)) → set_since wish r ≡ those
    → IsTold wish m.state.wishes flying those → StandsAsReplied r wish
told_at_rest r wish flying those none set is (IsTold.unset u idle) = absurd (set u)
told_at_rest r wish flying those none set is (IsTold.flies same) = absurd (let h = sym none ∙ same in cc)
told_at_rest r wish flying those none set is (IsTold.replied {reply} says) =
    record { reply = reply; is_replied = is; says = says }

pub none_installed : (wish : Wish) (installed : List EventRequest) → requests_of wish installed ≡ []
    → is_installed installed wish ≡ false
none_installed wish [] none = refl
none_installed wish (r ∷ installed) none = by_test (is_wish wish r.wish) none (none_installed wish installed)
  where
    by_test : (b : Bool) → cond b (r ∷ requests_of wish installed) (requests_of wish installed) ≡ []
        → (requests_of wish installed ≡ [] → is_installed installed wish ≡ false)
        → (b || is_installed installed wish) ≡ false
    by_test true none again = cc
    by_test false none again = again none

pub as_replied : (messages : List Message) (m : Machine) (r : Run messages m) → IsAtRest m → m.state.phase ≡ Attached
    → (wish : Wish) → has_wish (wished m.state.wishes.wanted) wish ≡ true → StandsAsReplied r wish
as_replied messages m r rests attached wish asked =
    let near : is_gone m.state.phase ≡ false = ap is_gone attached in
    let settled = settles messages m r rests attached in
    told_at_rest r wish (flying_in m.hand) (set_since wish r) (ap flying_in settled.none_in_hand) is_set refl
    (is_told r near wish asked)
  where
    is_set : ¬ (IsUnset wish m.state.wishes)
    is_set u =
        let is = (settles messages m r rests attached).just_wished wish in
        let no : false ≡ true = sym (none_installed wish m.state.wishes.installed u.0) ∙ is ∙ rw (asked, u.1) refl in cc
