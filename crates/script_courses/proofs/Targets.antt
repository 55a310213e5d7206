-- What a scripted target makes of a call is one thing.
use Rattle.std.proofs.Common.{◌≡◌, ℕ, Bool, true, false, List, Option, None, Some, refl, sym, ap, subst, ◌∙◌}
use Rattle.std.specs.Prelude.{Result, Ok, Err, remove}
use Rattle.jdwp_commands.specs.declared.asked.Replied.{Replied}
use Rattle.script_wires.specs.Played.{Takes}
use Rattle.target_server.specs.Hearing.{Answers, FeedsUpTo, Hears, HearsUpTo, TakesOne}
use Rattle.target_server.specs.Hearing.{TargetState, gets, next_of, passed, stopped}
use Rattle.target_server.specs.Hearing.{Takes as SomeTaken}
use Rattle.target_server.specs.Joints.{Advances, Joint, Serves, answered, done, moved_on}
use Rattle.target_server.specs.declared.commands.Command.{Command}
use Rattle.target_server.specs.declared.trouble.TargetTrouble.{TargetTrouble}
use Rattle.world_model.specs.declared.world.World.{World}

-- Small words ---------------------------------------------------------------------------------------------------------

pub some_same : {A : Type 0} {x y : A} → ◌≡◌ {A = Option A} (Some x) (Some y) → x ≡ y
some_same h = cc

pub not_none : {A : Type 0} {x : A} {o : Option A} → o ≡ Some x → o ≡ None → ⊥
not_none h k = cc

pub not_both : {b : Bool} → b ≡ true → b ≡ false → ⊥
not_both h k = cc

-- One move ------------------------------------------------------------------------------------------------------------

one_command : {old : Joint} {place : ℕ} {new other : Joint} (a : Serves old place new) (b : Serves old place other)
    → a.command ≡ b.command
one_command a b = some_same (sym a.waited ∙ b.waited)

one_answer : {old : Joint} {place : ℕ} {new other : Joint} (a : Serves old place new) (b : Serves old place other)
    → ◌≡◌ {A = World × Replied} (new.world, a.reply) (other.world, b.reply)
one_answer {old} a b =
    some_same (sym a.answers ∙ ap (λ (c : Command). answered old.world c.asked) (one_command a b) ∙ b.answers)

one_flight : {old : Joint} {place : ℕ} {new other : Joint} (a : Serves old place new) (b : Serves old place other)
    → new.flight ≡ other.flight
one_flight {old = old} {new = new} a b =
    a.flight
    ∙ ap (λ (c : Command). done old.world new.world c a.reply old.flight) (one_command a b)
    ∙ ap (λ (p : World × Replied). done old.world p.0 b.command p.1 old.flight) (one_answer a b)
    ∙ sym b.flight

-- a command is served in one way
pub serves_one : {old : Joint} {place : ℕ} {new other : Joint} → Serves old place new → Serves old place other
    → new ≡ other
serves_one {old} {place} {new} {other} a b =
    a.others
    ∙ ap (λ (w : World). record old { world = w; unserved = remove old.unserved place; flight = new.flight })
    (ap (λ (p : World × Replied). p.0) (one_answer a b))
    ∙ ap (λ f. record old { world = other.world; unserved = remove old.unserved place; flight = f }) (one_flight a b)
    ∙ sym b.others

-- a move is made in one way
pub advances_one : {old new other : Joint} → Advances old new → Advances old other → new ≡ other
advances_one {old} a b =
    a.same ∙ ap (λ made. moved_on made old) (some_same (sym a.can ∙ b.can)) ∙ sym b.same

-- Hearing -------------------------------------------------------------------------------------------------------------

answers_one : {t one other : TargetState} → Answers t one → Answers t other → one ≡ other
answers_one (Answers.is_greeted is) (Answers.is_greeted again) = refl
answers_one (Answers.is_greeted is) (Answers.waits_on waits) = refl
answers_one (Answers.is_greeted is) (Answers.greets heard g) = absurd (not_both is g.first)
answers_one (Answers.waits_on waits) (Answers.is_greeted is) = refl
answers_one (Answers.waits_on waits) (Answers.waits_on again) = refl
answers_one (Answers.waits_on waits) (Answers.greets heard g) = absurd (not_both heard waits)
answers_one (Answers.greets heard g) (Answers.is_greeted is) = absurd (not_both is g.first)
answers_one (Answers.greets heard g) (Answers.waits_on waits) = absurd (not_both heard waits)
answers_one {t} (Answers.greets heard g) (Answers.greets again h) =
    ap (λ (j : Joint). record t { joint = j }) (g.same ∙ sym h.same)

ok_some : {c d : Command} → ◌≡◌ {A = Result (Option Command) TargetTrouble} (Ok (Some c)) (Ok (Some d)) → c ≡ d
ok_some h = cc

takes_one : {old one other : TargetState} → TakesOne old one → TakesOne old other → one ≡ other
takes_one {old} a b =
    a.same ∙ ap (λ (c : Command). gets c (passed old)) (ok_some (sym a.next ∙ b.next)) ∙ sym b.same

-- Taking --------------------------------------------------------------------------------------------------------------

-- commands are taken, told from the first on
data Onward : TargetState → TargetState → Type 0 where
  stops : {t : TargetState} → Onward t t
  takes : {old middle new : TargetState} → TakesOne old middle → Onward middle new → Onward old new

onward : {old middle new : TargetState} → SomeTaken old middle → Onward middle new → Onward old new
onward SomeTaken.none rest = rest
onward (SomeTaken.one_more before one) rest = onward before (Onward.takes one rest)

-- none can be taken
abbrev IsStuck : TargetState → Type 0
IsStuck t = (command : Command) → next_of t ≡ Ok (Some command) → ⊥

meet : {old also one other : TargetState} → old ≡ also → Onward old one → Onward also other → IsStuck one
    → IsStuck other → one ≡ other
meet same Onward.stops Onward.stops first second = same
meet {old} {also} same Onward.stops (Onward.takes one rest) first second =
    absurd (first one.command (ap (λ (t : TargetState). next_of t) same ∙ one.next))
meet {old} {also} same (Onward.takes one rest) Onward.stops first second =
    absurd (second one.command (sym (ap (λ (t : TargetState). next_of t) same) ∙ one.next))
meet same (Onward.takes {middle = middle} one rest) (Onward.takes {middle = also_middle} other more) first second =
    meet (takes_one one (subst (λ t. TakesOne t also_middle) (sym same) other)) rest more first second

waits_stuck : (t : TargetState) → next_of t ≡ Ok None → IsStuck t
waits_stuck t waits command some = cc

refused_stuck : (t : TargetState) (trouble : TargetTrouble) → next_of t ≡ Err trouble → IsStuck t
refused_stuck t trouble refused command some = cc

not_refused : {next : Result (Option Command) TargetTrouble} {trouble : TargetTrouble} → next ≡ Ok None
    → next ≡ Err trouble → ⊥
not_refused waits refused = cc

same_trouble : {next : Result (Option Command) TargetTrouble} {one other : TargetTrouble} → next ≡ Err one
    → next ≡ Err other → one ≡ other
same_trouble first second = cc

-- Feeding -------------------------------------------------------------------------------------------------------------

hears_one : {old one other : TargetState} {piece : List ℕ} → Hears old piece one → Hears old piece other → one ≡ other
hears_one {one = one} {other = other} a b =
    meet (answers_one a.answers b.answers) (onward a.takes.takes Onward.stops) (onward b.takes.takes Onward.stops)
    (waits_stuck one a.takes.waits) (waits_stuck other b.takes.waits)

last_one : {old one other : TargetState} {piece : List ℕ} {trouble also : TargetTrouble}
    (a : HearsUpTo old piece trouble one) (b : HearsUpTo old piece also other) → a.takes.last ≡ b.takes.last
last_one {trouble = trouble} {also = also} a b =
    meet (answers_one a.answers b.answers) (onward a.takes.takes Onward.stops) (onward b.takes.takes Onward.stops)
    (refused_stuck a.takes.last trouble a.takes.refused) (refused_stuck b.takes.last also b.takes.refused)

trouble_one : {old one other : TargetState} {piece : List ℕ} {trouble also : TargetTrouble}
    → HearsUpTo old piece trouble one → HearsUpTo old piece also other → trouble ≡ also
trouble_one a b =
    same_trouble a.takes.refused (ap (λ (t : TargetState). next_of t) (last_one a b) ∙ b.takes.refused)

not_both_heard : {old one other : TargetState} {piece : List ℕ} {trouble : TargetTrouble} → Hears old piece one
    → HearsUpTo old piece trouble other → ⊥
not_both_heard {one = one} {trouble = trouble} a b =
    not_refused a.takes.waits (ap (λ (t : TargetState). next_of t) (meet (answers_one a.answers b.answers)
    (onward a.takes.takes Onward.stops) (onward b.takes.takes Onward.stops) (waits_stuck one a.takes.waits)
    (refused_stuck b.takes.last trouble b.takes.refused)) ∙ b.takes.refused)

up_to_one : {old one other : TargetState} {piece : List ℕ} {trouble also : TargetTrouble}
    → FeedsUpTo old piece trouble one → FeedsUpTo old piece also other → one ≡ other
up_to_one {also = also} a b =
    a.same
    ∙ ap (λ (t : TargetTrouble). stopped t a.last) (trouble_one a.hears b.hears)
    ∙ ap (λ (t : TargetState). stopped also t)
    (a.hears.takes.same ∙ ap (λ (t : TargetState). passed t) (last_one a.hears b.hears) ∙ sym b.hears.takes.same)
    ∙ sym b.same

-- bytes are taken in one way
pub bytes_one : {old one other : TargetState} {bytes : List ℕ} → Takes old bytes one → Takes old bytes other
    → one ≡ other
bytes_one (Takes.all a) (Takes.all b) = hears_one a.hears b.hears
bytes_one (Takes.all a) (Takes.some trouble none b) = absurd (not_both_heard a.hears b.hears)
bytes_one (Takes.all a) (Takes.none trouble is same) = absurd (not_none is a.may)
bytes_one (Takes.some trouble none a) (Takes.all b) = absurd (not_both_heard b.hears a.hears)
bytes_one (Takes.some trouble none a) (Takes.some also none_too b) = up_to_one a b
bytes_one (Takes.some trouble none a) (Takes.none also is same) = absurd (not_none is none)
bytes_one (Takes.none trouble is same) (Takes.all b) = absurd (not_none is b.may)
bytes_one (Takes.none trouble is same) (Takes.some also none b) = absurd (not_none is none)
bytes_one (Takes.none trouble is same) (Takes.none also is_too same_too) = same ∙ sym same_too
