-- Where the machine waits for its target, each question that the part in front lacks was asked.
use Rattle.std.proofs.Common.{◌≡◌, ℕ, Bool, true, false, cond, not, ◌||◌, List, [], ◌∷◌, ◌++◌, length, Option, Some}
use Rattle.std.proofs.Common.{refl, sym, ap, subst, ◌∙◌, append-nil, nat_le, arith}
use Rattle.std.specs.List.{flat_map}
use Rattle.machine_model.specs.Due.{Load, asked_first, asked_next, clear, due, due_by, is_full, is_listed, lacked_by}
use Rattle.machine_model.specs.Due.{lacking_more, load_of, newly_lacked, queued, queued_next, waiting, with_want}
use Rattle.machine_model.specs.Due.{with_wants}
use Rattle.machine_model.specs.Keys.{same_question}
use Rattle.machine_model.specs.Plans.{question_of}
use Rattle.machine_model.specs.Replying.{is_waiting, pending_of, unanswered}
use Rattle.machine_model.specs.Runs.{Message, Run}
use Rattle.machine_model.specs.State.{Hand, Machine, has_waiting, is_empty}
use Rattle.machine_model.specs.Waiting.{IsAsked, IsWait, WaitsWith, are_asked}
use Rattle.machine_model.proofs.KeyLaws.{is_same}
use Rattle.machine_model.proofs.Bools.{first_holds, or_more}
use Rattle.machine_steps.specs.Names.{Act, Question, Sent, Want}
use Rattle.machine_steps.proofs.PendingLaws.{Open, all_open}
use Rattle.machine_steps.proofs.TurnLaws.{none_flies, none_late, none_out, same_hand}
use Rattle.machine_steps.proofs.QuietLaws.{load_in, waits_some}
use Rattle.std.proofs.lemmas.Bool.{or_left, or_right}

-- What is to be asked -------------------------------------------------------------------------------------------------

-- each of these is pending or to be asked
abbrev are_covered : List Sent → List Want → List Want → Bool
are_covered asked queue [] = true
are_covered asked queue (want ∷ wants) =
    cond (is_waiting (question_of want) asked || is_listed (question_of want) queue)
    (are_covered asked queue wants) false

listed_more : (question : Question) (queue : List Want) (want : Want) → is_listed question queue ≡ true
    → is_listed question (queue ++ want ∷ []) ≡ true
listed_more question [] want is = cc
listed_more question (first ∷ queue) want is =
    or_more (same_question (question_of first) question) (is_listed question queue) _ is
    (listed_more question queue want)

listed_last : (queue : List Want) (want : Want) → is_listed (question_of want) (queue ++ want ∷ []) ≡ true
listed_last [] want = or_left _ false (is_same (question_of want))
listed_last (first ∷ queue) want = or_right (same_question (question_of first) (question_of want)) _
    (listed_last queue want)

-- what is to be asked stays so
listed_one : (asked : List Sent) (question : Question) (queue : List Want) (want : Want)
    → is_listed question queue ≡ true
    → is_listed question (with_want asked queue want) ≡ true
listed_one asked question queue want is =
    by_new (is_waiting (question_of want) asked || is_listed (question_of want) queue)
  where
    by_new : (there : Bool) → is_listed question (cond there queue (queue ++ want ∷ [])) ≡ true
    by_new true = is
    by_new false = listed_more question queue want is

listed_on : (asked : List Sent) (question : Question) (queue wants : List Want) → is_listed question queue ≡ true
    → is_listed question (with_wants asked queue wants) ≡ true
listed_on asked question queue [] is = is
listed_on asked question queue (want ∷ wants) is =
    listed_on asked question (with_want asked queue want) wants (listed_one asked question queue want is)

-- a want that is put there is pending or to be asked
covers_one : (asked : List Sent) (queue : List Want) (want : Want)
    → (is_waiting (question_of want) asked || is_listed (question_of want) (with_want asked queue want)) ≡ true
covers_one asked queue want = by_two (is_waiting (question_of want) asked) (is_listed (question_of want) queue) refl
  where
    by_two : (waits listed : Bool) → is_listed (question_of want) queue ≡ listed
        → (waits || is_listed (question_of want) (cond (waits || listed) queue (queue ++ want ∷ []))) ≡ true
    by_two true listed is = refl
    by_two false true is = is
    by_two false false is = listed_last queue want

-- each want is pending or to be asked, once all are put there
pub covers : (asked : List Sent) (queue wants : List Want) → are_covered asked (with_wants asked queue wants) wants
    ≡ true
covers asked queue [] = refl
covers asked queue (want ∷ wants) =
    both (is_waiting (question_of want) asked) (is_listed (question_of want) (with_want asked queue want)) _ _
    (covers_one asked queue want) (listed_on asked (question_of want) (with_want asked queue want) wants)
    (covers asked (with_want asked queue want) wants)
  where
    both : (waits listed now rest : Bool) → (waits || listed) ≡ true → (listed ≡ true → now ≡ true) → rest ≡ true
        → cond (waits || now) rest false ≡ true
    both waits listed now rest is on others = grind (arith, is, on, others)

-- where nothing is to be asked, all are pending
none_to_ask : (asked : List Sent) (wants : List Want) → are_covered asked [] wants ≡ true → are_asked asked wants ≡ true
none_to_ask asked [] is = refl
none_to_ask asked (want ∷ wants) is =
    both (is_waiting (question_of want) asked) (are_covered asked [] wants) _ is (none_to_ask asked wants)
  where
    both : (waits rest now : Bool) → cond (waits || false) rest false ≡ true → (rest ≡ true → now ≡ true)
        → cond waits now false ≡ true
    both waits rest now is on = grind (arith, is, on)

pub all_pending : (m : Machine) (hand : Hand) → newly_lacked m.state hand ≡ []
    → are_asked hand.asked (lacked_by m.state hand hand.parts) ≡ true
unfolding newly_lacked
all_pending m hand is =
    let wants = lacked_by m.state hand hand.parts in
    none_to_ask hand.asked wants
    (subst (λ (queue : List Want). are_covered hand.asked queue wants ≡ true) is (covers hand.asked [] wants))

-- The gate ------------------------------------------------------------------------------------------------------------

-- what hinders the item in hand, where no effect is in flight
abbrev load_by : List Want → List Want → Bool → Load
load_by queue lacking waits =
    cond (not (is_empty queue)) queued (cond (not (is_empty lacking)) lacking_more (cond waits waiting clear))

load_here : (id_pending : Bool) (m : Machine) (hand : Hand) → WaitsWith id_pending m hand
    → load_of m ≡ load_by hand.queue (newly_lacked m.state hand) (has_waiting hand.asked)
load_here id_pending m hand w =
    sym (load_in m hand (load_of m) refl w.near w.in_hand) ∙ rw (w.read, w.still) refl

waits_by : (id_pending : Bool) (m : Machine) (load : Load) → load_of m ≡ load → (due id_pending m).act ≡ Act.Waits
    → (due_by (is_full id_pending m) load m).act ≡ Act.Waits
unfolding due
waits_by id_pending m load is waits = subst (λ (load : Load). (due_by (is_full id_pending m) load m).act
    ≡ Act.Waits) is waits

waits_full : (id_pending : Bool) (m : Machine) (hand : Hand) (want : Want) (wants : List Want) → m.hand ≡ Some hand
    → hand.queue ≡ want ∷ wants → (asked_next (is_full id_pending m) m m.hand).act ≡ Act.Waits
    → is_full id_pending m ≡ true
waits_full id_pending m hand want wants is are waits =
    by_full (is_full id_pending m)
    (subst (λ (queue : List Want). (asked_first (is_full id_pending m) m queue).act ≡ Act.Waits) are
    (subst (λ (held : Option Hand). (asked_next (is_full id_pending m) m held).act ≡ Act.Waits) is waits))
  where
    by_full : (full : Bool) → (asked_first full m (want ∷ wants)).act ≡ Act.Waits → full ≡ true
    by_full full waits = grind (arith, waits)

waits_asked : (id_pending : Bool) (m : Machine) (hand : Hand) → WaitsWith id_pending m hand → IsAsked id_pending m hand
waits_asked id_pending m hand w =
    by_queue hand.queue (newly_lacked m.state hand) refl refl (load_here id_pending m hand w)
  where
    by_queue : (queue lacking : List Want) → hand.queue ≡ queue → newly_lacked m.state hand ≡ lacking
        → load_of m ≡ load_by queue lacking (has_waiting hand.asked) → IsAsked id_pending m hand
    by_queue (want ∷ wants) lacking are lacks load =
        IsAsked.full want wants are
        (waits_full id_pending m hand want wants w.in_hand are (waits_by id_pending m queued load w.waits))
    by_queue [] (want ∷ wants) are lacks load =
        let never : (queued_next m m.hand).act ≡ Act.Waits = waits_by id_pending m lacking_more load w.waits in
        let goes : Act.Goes ≡ Act.Waits =
        subst (λ (held : Option Hand). (queued_next m held).act ≡ Act.Waits) w.in_hand never in cc
    by_queue [] [] are lacks load = IsAsked.all_asked are (all_pending m hand lacks)

-- a question that is pending is awaited
some_asked : (asked : List Sent) (wants : List Want) → are_asked asked wants ≡ true → is_empty wants ≡ false
    → has_waiting asked ≡ true
some_asked asked [] are some = cc
some_asked asked (want ∷ wants) are some =
    waits_some (question_of want) asked (first_holds (is_waiting (question_of want) asked) _ are)

full_waits : (messages : List Message) (id_pending : Bool) (m : Machine) (hand : Hand) → Open messages m
    → WaitsWith id_pending m hand → is_full id_pending m ≡ true → (has_waiting hand.asked || id_pending) ≡ true
full_waits messages id_pending m hand o w full = by_two (has_waiting hand.asked) id_pending refl full
  where
    pending : pending_of m ≡ flat_map unanswered hand.asked
    pending = sym (same_hand m hand w.in_hand)
        ∙ rw (none_late m o.holds.late w.near, none_flies hand.effect w.still) (append-nil
        (flat_map unanswered hand.asked))

    by_two : (waits id : Bool) → has_waiting hand.asked ≡ waits → (id || nat_le 16 (length (pending_of m))) ≡ true
        → (waits || id) ≡ true
    by_two false false is full =
        let none : length (pending_of m) ≡ 0 = rw (pending, none_out hand.asked is) refl in
        let no : false ≡ true = sym (ap (λ (n : ℕ). nat_le 16 n) none) ∙ full in no
    by_two _ _ is full = refl

pub is_wait : (messages : List Message) (m : Machine) (id_pending : Bool) (hand : Hand) → Run messages m
    → WaitsWith id_pending m hand → IsWait id_pending m hand
is_wait messages m id_pending hand r w = let why = waits_asked id_pending m hand w in record {
  asked = why;
  awaited = λ some. by_why why some;
}
  where
    by_why : IsAsked id_pending m hand → is_empty (lacked_by m.state hand hand.parts) ≡ false
        → (has_waiting hand.asked || id_pending) ≡ true
    by_why (IsAsked.full want wants are full) some = full_waits messages id_pending m hand (all_open r) w full
    by_why (IsAsked.all_asked are asked) some =
        or_left (has_waiting hand.asked) id_pending (some_asked hand.asked _ asked some)
