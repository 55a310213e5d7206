-- The words of each command in the form of the usage line, and what `clap` makes of them.
use Rattle.std.proofs.Common.{◌≡◌, ℕ, Bool, true, false, List, [], ◌∷◌, codes, map, ap, refl, sym, unwrap_or, is_some, Some, nat_eq, ne_eqb}
use Rattle.std.specs.Str.{bytes_eq}
use Rattle.std.proofs.lemmas.Slice.Eq.{bytes_eq-Decides}
use Rattle.std.specs.List.{AllByRecursion}
use Rattle.clap.proofs.OnLiterals.{clap_on_literals}
use Rattle.clap.specs.Faults.{check_fault, defaults_fault, entered_fault, settle_fault, walk_fault}
use Rattle.clap.specs.Kinds.{Kinds, or_else}
use Rattle.clap.specs.Simple.{App, argument_words, built, entered, names_of as names_of_app}
use Rattle.clap.specs.Walk.{Walk, finished, nothing_held, settled, walk, walk_from}
use Rattle.command_words.specs.Forms.{Form, form_app, form_fault, form_given, form_of, kind_in, kind_named, kinds, names_of, value, words_with}
use Rattle.command_words.specs.Words.{IsNumbered, IsValue, Names, said, usage_words}
use Rattle.command_words.specs.declared.forms.Kind.{Kind}
use Rattle.command_words.specs.declared.forms.Kind.TheVariants as kind
use Rattle.command_words.specs.declared.words.Addresses.{Addresses}
use Rattle.command_words.specs.declared.words.ScriptNumber.{ScriptNumber}
use Rattle.command_words.specs.declared.words.Task.{Task}
use Rattle.command_words.specs.declared.words.Task.TheVariants.{Serve, Script, Replay, Generate, Record, Dump}

serve_words : (addresses : Addresses) → usage_words (Serve addresses)
    ≡ codes "serve" ∷ codes "--listen" ∷ addresses.listen ∷ codes "--target" ∷ addresses.target ∷ []
serve_words addresses = refl

script_words : (file : List ℕ) → usage_words (Script file) ≡ codes "script" ∷ file ∷ []
script_words file = refl

replay_words : (log : List ℕ) → usage_words (Replay log) ≡ codes "replay" ∷ log ∷ []
replay_words log = refl

generate_words : (number : ScriptNumber) (file : List ℕ) → usage_words (Generate number file)
    ≡ codes "generate" ∷ number.digits ∷ codes "--out" ∷ file ∷ []
generate_words number file = refl

record_words : (addresses : Addresses) (file : List ℕ) → usage_words (Record addresses file)
    ≡ codes "record" ∷ codes "--listen" ∷ addresses.listen ∷ codes "--target" ∷ addresses.target ∷ codes "--out" ∷ file ∷ []
record_words addresses file = refl

dump_words : (target : List ℕ) → usage_words (Dump target) ≡ codes "dump" ∷ codes "--target" ∷ target ∷ []
dump_words target = refl

in_found : (kinds : List Kind) (name : List ℕ) (kind : Kind) → kind_in kinds name ≡ Some kind → (form_of kind).name ≡ name
in_found [] name kind found = cc
in_found (k ∷ kinds) name kind found = go (bytes_eq (form_of k).name name) refl (in_found kinds name kind)
  where
    go : (b : Bool) → bytes_eq (form_of k).name name ≡ b → (kind_in kinds name ≡ Some kind → (form_of kind).name ≡ name)
        → (form_of kind).name ≡ name
    go true is later =
        let same : Some k ≡ Some kind = rw is at found in
        (bytes_eq-Decides _ _).0 (rw (ap (λ option. unwrap_or option kind) same) at is)
    go false is later = later (rw is at found)

-- the words of a task begin with the name of its command
pub name_is : (name : List ℕ) (words : List (List ℕ)) (task : Task) → Names (name ∷ words) task
    → name ≡ (form_of (said task).0).name
name_is name words task (found, says) = sym (in_found kinds name (said task).0 found)

-- the words behind a command's name give its values, in order
abbrev Gives : Form → List (List ℕ) → List (List ℕ) → Type 0
Gives form words values = (form_fault form words ≡ []) × (map (form_given form words) (names_of form) ≡ map Some values)

addresses_given : (b c : ℕ) (bs cs : List ℕ) → nat_eq b 45 ≡ false → nat_eq c 45 ≡ false
    → Gives (form_of kind.Serve) (codes "--listen" ∷ (b ∷ bs) ∷ codes "--target" ∷ (c ∷ cs) ∷ [])
    ((b ∷ bs) ∷ (c ∷ cs) ∷ [])
unfolding form_fault form_given clap_on_literals
addresses_given b c bs cs listen target = (simp (listen, target) refl, simp (listen, target) refl)

-- `record` with these values, as `clap` parses it
abbrev record_app : App
record_app = built (form_app (form_of kind.Record))

abbrev record_args : List ℕ → List ℕ → List ℕ → List (List ℕ)
record_args listen target out = argument_words (form_app (form_of kind.Record))
    (codes "--listen" ∷ listen ∷ codes "--target" ∷ target ∷ codes "--out" ∷ out ∷ [])

abbrev record_end : List ℕ → List ℕ → List ℕ → Walk
record_end listen target out =
    walk record_app.top.rules (names_of_app record_app) nothing_held (record_args listen target out)

none_met : (b c d : ℕ) (bs cs ds : List ℕ) → nat_eq b 45 ≡ false → nat_eq c 45 ≡ false → nat_eq d 45 ≡ false
    → walk_fault record_app.top (names_of_app record_app) (walk_from nothing_held)
    (record_args (b ∷ bs) (c ∷ cs) (d ∷ ds)) ≡ []
unfolding clap_on_literals
none_met b c d bs cs ds listen target out =
    rw listen (rw listen (rw target (rw target (rw out (rw out refl)))))

none_entered : (b c d : ℕ) (bs cs ds : List ℕ) → nat_eq b 45 ≡ false → nat_eq c 45 ≡ false → nat_eq d 45 ≡ false
    → entered_fault record_app (record_end (b ∷ bs) (c ∷ cs) (d ∷ ds)).stopped ≡ []
unfolding clap_on_literals
none_entered b c d bs cs ds listen target out =
    rw listen (rw listen (rw target (rw target (rw out (rw out refl)))))

none_settled : (b c d : ℕ) (bs cs ds : List ℕ) → nat_eq b 45 ≡ false → nat_eq c 45 ≡ false → nat_eq d 45 ≡ false
    → settle_fault record_app.top.rules record_app.top.args_override_self
    (record_end (b ∷ bs) (c ∷ cs) (d ∷ ds)).held ≡ []
unfolding clap_on_literals
none_settled b c d bs cs ds listen target out =
    rw listen (rw listen (rw target (rw target (rw out (rw out refl)))))

none_by_default : (b c d : ℕ) (bs cs ds : List ℕ) → nat_eq b 45 ≡ false → nat_eq c 45 ≡ false → nat_eq d 45 ≡ false
    → defaults_fault (settled record_app.top.rules (record_end (b ∷ bs) (c ∷ cs) (d ∷ ds)).held).rows
    record_app.top.rules ≡ []
unfolding clap_on_literals
none_by_default b c d bs cs ds listen target out =
    rw listen (rw listen (rw target (rw target (rw out (rw out refl)))))

none_checked : (b c d : ℕ) (bs cs ds : List ℕ) → nat_eq b 45 ≡ false → nat_eq c 45 ≡ false → nat_eq d 45 ≡ false
    → check_fault record_app.top (finished record_app.top.rules (record_end (b ∷ bs) (c ∷ cs) (d ∷ ds)).held)
    (is_some (entered record_app (record_end (b ∷ bs) (c ∷ cs) (d ∷ ds)).stopped)) ≡ []
unfolding clap_on_literals
none_checked b c d bs cs ds listen target out =
    rw listen (rw listen (rw target (rw target (rw out (rw out refl)))))

or_none : (a b : Kinds) → a ≡ [] → b ≡ [] → or_else a b ≡ []
or_none [] b none nothing = nothing
or_none (k ∷ a) b none nothing = absurd cc

record_fault : (b c d : ℕ) (bs cs ds : List ℕ) → nat_eq b 45 ≡ false → nat_eq c 45 ≡ false → nat_eq d 45 ≡ false
    → form_fault (form_of kind.Record)
    (codes "--listen" ∷ (b ∷ bs) ∷ codes "--target" ∷ (c ∷ cs) ∷ codes "--out" ∷ (d ∷ ds) ∷ []) ≡ []
unfolding form_fault
record_fault b c d bs cs ds listen target out =
    or_none (walk_fault record_app.top (names_of_app record_app) (walk_from nothing_held)
    (record_args (b ∷ bs) (c ∷ cs) (d ∷ ds))) _ (none_met b c d bs cs ds listen target out)
    (or_none (entered_fault record_app (record_end (b ∷ bs) (c ∷ cs) (d ∷ ds)).stopped) _
    (none_entered b c d bs cs ds listen target out)
    (or_none (settle_fault record_app.top.rules record_app.top.args_override_self
    (record_end (b ∷ bs) (c ∷ cs) (d ∷ ds)).held) _ (none_settled b c d bs cs ds listen target out)
    (or_none (defaults_fault (settled record_app.top.rules (record_end (b ∷ bs) (c ∷ cs) (d ∷ ds)).held).rows
    record_app.top.rules) _ (none_by_default b c d bs cs ds listen target out)
    (none_checked b c d bs cs ds listen target out))))

listen_given : (b c d : ℕ) (bs cs ds : List ℕ) → nat_eq b 45 ≡ false → nat_eq c 45 ≡ false → nat_eq d 45 ≡ false
    → form_given (form_of kind.Record)
    (codes "--listen" ∷ (b ∷ bs) ∷ codes "--target" ∷ (c ∷ cs) ∷ codes "--out" ∷ (d ∷ ds) ∷ []) (codes "listen")
    ≡ Some (b ∷ bs)
unfolding form_given clap_on_literals
listen_given b c d bs cs ds listen target out =
    rw listen (rw listen (rw target (rw target (rw out (rw out refl)))))

target_given : (b c d : ℕ) (bs cs ds : List ℕ) → nat_eq b 45 ≡ false → nat_eq c 45 ≡ false → nat_eq d 45 ≡ false
    → form_given (form_of kind.Record)
    (codes "--listen" ∷ (b ∷ bs) ∷ codes "--target" ∷ (c ∷ cs) ∷ codes "--out" ∷ (d ∷ ds) ∷ []) (codes "target")
    ≡ Some (c ∷ cs)
unfolding form_given clap_on_literals
target_given b c d bs cs ds listen target out =
    rw listen (rw listen (rw target (rw target (rw out (rw out refl)))))

out_given : (b c d : ℕ) (bs cs ds : List ℕ) → nat_eq b 45 ≡ false → nat_eq c 45 ≡ false → nat_eq d 45 ≡ false
    → form_given (form_of kind.Record)
    (codes "--listen" ∷ (b ∷ bs) ∷ codes "--target" ∷ (c ∷ cs) ∷ codes "--out" ∷ (d ∷ ds) ∷ []) (codes "out")
    ≡ Some (d ∷ ds)
unfolding form_given clap_on_literals
out_given b c d bs cs ds listen target out =
    rw listen (rw listen (rw target (rw target (rw out (rw out refl)))))

three : {A : Type 0} {a b c x y z : A} → a ≡ x → b ≡ y → c ≡ z → a ∷ b ∷ c ∷ [] ≡ x ∷ y ∷ z ∷ []
three first second third = cc

record_given : (b c d : ℕ) (bs cs ds : List ℕ) → nat_eq b 45 ≡ false → nat_eq c 45 ≡ false → nat_eq d 45 ≡ false
    → Gives (form_of kind.Record)
    (codes "--listen" ∷ (b ∷ bs) ∷ codes "--target" ∷ (c ∷ cs) ∷ codes "--out" ∷ (d ∷ ds) ∷ [])
    ((b ∷ bs) ∷ (c ∷ cs) ∷ (d ∷ ds) ∷ [])
record_given b c d bs cs ds listen target out = (
  record_fault b c d bs cs ds listen target out,
  three (listen_given b c d bs cs ds listen target out) (target_given b c d bs cs ds listen target out)
      (out_given b c d bs cs ds listen target out),
)

file_given : (name sign : List ℕ) (b : ℕ) (bs : List ℕ) → nat_eq b 45 ≡ false
    → Gives (record { name = name; parts = value (codes "file") sign ∷ [] }) ((b ∷ bs) ∷ []) ((b ∷ bs) ∷ [])
unfolding form_fault form_given clap_on_literals
file_given name sign b bs file = (simp file refl, simp file refl)

number_given : (b c : ℕ) (bs cs : List ℕ) → nat_eq b 45 ≡ false → nat_eq c 45 ≡ false
    → Gives (form_of kind.Generate) ((b ∷ bs) ∷ codes "--out" ∷ (c ∷ cs) ∷ []) ((b ∷ bs) ∷ (c ∷ cs) ∷ [])
unfolding form_fault form_given clap_on_literals
number_given b c bs cs number out = (simp (number, out) refl, simp (number, out) refl)

target_alone : (b : ℕ) (bs : List ℕ) → nat_eq b 45 ≡ false
    → Gives (form_of kind.Dump) (codes "--target" ∷ (b ∷ bs) ∷ []) ((b ∷ bs) ∷ [])
unfolding form_fault form_given clap_on_literals
target_alone b bs target = (simp target refl, simp target refl)

serve_taken : (listen target : List ℕ) → IsValue listen → IsValue target
    → Gives (form_of kind.Serve) (codes "--listen" ∷ listen ∷ codes "--target" ∷ target ∷ []) (listen ∷ target ∷ [])
serve_taken [] target h k = absurd h
serve_taken (b ∷ bs) [] h k = absurd k
serve_taken (b ∷ bs) (c ∷ cs) h k = addresses_given b c bs cs (ne_eqb b 45 h) (ne_eqb c 45 k)

record_taken : (listen target out : List ℕ) → IsValue listen → IsValue target → IsValue out
    → Gives (form_of kind.Record)
    (codes "--listen" ∷ listen ∷ codes "--target" ∷ target ∷ codes "--out" ∷ out ∷ []) (listen ∷ target ∷ out ∷ [])
record_taken [] target out h k l = absurd h
record_taken (b ∷ bs) [] out h k l = absurd k
record_taken (b ∷ bs) (c ∷ cs) [] h k l = absurd l
record_taken (b ∷ bs) (c ∷ cs) (d ∷ ds) h k l =
    record_given b c d bs cs ds (ne_eqb b 45 h) (ne_eqb c 45 k) (ne_eqb d 45 l)

generate_taken : (digits out : List ℕ) → IsValue digits → IsValue out
    → Gives (form_of kind.Generate) (digits ∷ codes "--out" ∷ out ∷ []) (digits ∷ out ∷ [])
generate_taken [] out h k = absurd h
generate_taken (b ∷ bs) [] h k = absurd k
generate_taken (b ∷ bs) (c ∷ cs) h k = number_given b c bs cs (ne_eqb b 45 h) (ne_eqb c 45 k)

dump_taken : (target : List ℕ) → IsValue target
    → Gives (form_of kind.Dump) (codes "--target" ∷ target ∷ []) (target ∷ [])
dump_taken [] h = absurd h
dump_taken (b ∷ bs) h = target_alone b bs (ne_eqb b 45 h)

file_taken : (name sign file : List ℕ) → IsValue file
    → Gives (record { name = name; parts = value (codes "file") sign ∷ [] }) (file ∷ []) (file ∷ [])
file_taken name sign [] h = absurd h
file_taken name sign (b ∷ bs) h = file_given name sign b bs (ne_eqb b 45 h)

-- words that are taken and give a task's values are the task
named : (task : Task) → kind_named (form_of (said task).0).name ≡ Some (said task).0
    → Gives (form_of (said task).0) (words_with (form_of (said task).0).parts (said task).1) (said task).1
    → IsNumbered task → Names (usage_words task) task
named task is (taken, values) number =
    (is, record { taken = taken; task_is = record { kind_is = refl; values = values; number = number } })

-- the words in the form of the usage line are taken
pub usage_taken : (task : Task) → AllByRecursion IsValue (said task).1 → IsNumbered task → Names (usage_words task) task
usage_taken (Serve addresses) (listen, (target, _)) number =
    named (Serve addresses) refl (serve_taken addresses.listen addresses.target listen target) number
usage_taken (Script file) (h, _) number =
    named (Script file) refl (file_taken (codes "script") (codes "FILE") file h) number
usage_taken (Replay log) (h, _) number =
    named (Replay log) refl (file_taken (codes "replay") (codes "LOG") log h) number
usage_taken (Generate script file) (digits, (out, _)) number =
    named (Generate script file) refl (generate_taken script.digits file digits out) number
usage_taken (Record addresses file) (listen, (target, (out, _))) number =
    named (Record addresses file) refl (record_taken addresses.listen addresses.target file listen target out) number
usage_taken (Dump target) (h, _) number = named (Dump target) refl (dump_taken target h) number
