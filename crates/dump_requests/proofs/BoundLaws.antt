-- A conversation stays in its bounds.
use Rattle.std.proofs.Common.{◌≡◌, ℕ, zero, suc, ◌+◌, ◌<◌, ◌≤◌, ◌^◌, ◌==◌, Bool, true, false, ◌&&◌, ◌||◌, if◌then◌else◌}
use Rattle.std.proofs.Common.{List, [], ◌∷◌, codes, slice_get, Option, Some, None, option_and_then, refl, arith}
use Rattle.std.specs.Prelude.{unwrap_or}
use Rattle.std.specs.List.{AllByRecursion}
use Rattle.std.specs.Option.{option_map_or}
use Rattle.std.specs.Ordering.{match_ordering, nat_cmp}
use Rattle.std.specs.Cmp.Lexicographic.{slice_cmp}
use Rattle.std.specs.Str.{is_utf8}
use Rattle.std.specs.declared.cmp.Ordering.{Ordering}
use Rattle.std.specs.declared.cmp.Ordering.TheVariants.{Less, Equal, Greater}
use Rattle.std.proofs.lemmas.Bool.{eqb-true}
use Rattle.std.proofs.lemmas.Str.{IsUtf8-from_is_utf8}
use Rattle.serde_json.specs.Data.{unsigned, negative, float, Data, null, boolean, number, string, array, object}
use Rattle.serde_json.specs.Data.{Items, no_items, item, Members, no_members, member}
use Rattle.serde_json.specs.Find.{as_array, as_number, as_u64, get, get_member}
use Rattle.serde_json.specs.Read.{read}
use Rattle.json_lines.specs.Spelled.{AreMembers, AreSpelled, IsSpelled}
use Rattle.json_lines.proofs.SpelledLaws.{read_spelled}
use Rattle.wire_core.specs.Outside.{last_count}
use Rattle.dump_client.specs.Answers.{answer_items, failure_of, first_scope, frames_from, frames_said, is_response}
use Rattle.dump_client.specs.Answers.{number_under, scope_said, threads_among, threads_said, variables_said}
use Rattle.dump_client.specs.Conversing.{answered, asked, at_first_threads, at_frame, at_scopes_by, at_stack_by, at_this_frame}
use Rattle.dump_client.specs.Conversing.{at_this_thread, at_thread, at_variables_by, behind, heard, is_gone, said, start}
use Rattle.dump_client.specs.Conversing.{taken_by, with_text}
use Rattle.dump_client.specs.Lines.{failure_line}
use Rattle.dump_client.specs.Messages.{body_in, message_in}
use Rattle.dump_client.specs.declared.answers.Heading.{Heading}
use Rattle.dump_client.specs.declared.conversation.Conversation.{Conversation}
use Rattle.dump_client.specs.declared.due.Due.{Due}
use Rattle.dump_client.specs.declared.due.Due.TheVariants as due
use Rattle.dump_requests.specs.Bounds.{IsAskable, IsHeading, IsInBounds}

-- What is found in a value that was read ------------------------------------------------------------------------------

abbrev IfSpelled : Option Data → Type 0
IfSpelled None = Unit {0}
IfSpelled (Some d) = IsSpelled d

abbrev IfItems : Option Items → Type 0
IfItems None = Unit {0}
IfItems (Some ds) = AreSpelled ds

among : (o : Ordering) (x y z : Option Data) → IfSpelled x → IfSpelled y → IfSpelled z
    → IfSpelled (match_ordering o x y z)
among Less x y z less equal greater = less
among Equal x y z less equal greater = equal
among Greater x y z less equal greater = greater

member_spelled : (name : List ℕ) (ms : Members) → AreMembers ms → IfSpelled (get_member name ms)
member_spelled name no_members are = tt
member_spelled name (member k d ms) are =
    let more = member_spelled name ms are.1.1.1 in
    among (slice_cmp nat_cmp name k) (get_member name ms) (Some d) (get_member name ms) more are.1.0 more

get_spelled : (name : List ℕ) (d : Data) → IsSpelled d → IfSpelled (get name d)
get_spelled name null is = tt
get_spelled name (boolean b) is = tt
get_spelled name (number n) is = tt
get_spelled name (string s) is = tt
get_spelled name (array ds) is = tt
get_spelled name (object ms) is = member_spelled name ms is

small_number : (o : Option Data) → IfSpelled o
    → unwrap_or (option_and_then as_u64 (option_and_then as_number o)) 0 < 2 ^ 64
small_number None is = omega arith
small_number (Some null) is = omega arith
small_number (Some (boolean b)) is = omega arith
small_number (Some (number (unsigned n))) is = is
small_number (Some (number (negative z))) is = omega arith
small_number (Some (number (float x))) is = omega arith
small_number (Some (string s)) is = omega arith
small_number (Some (array ds)) is = omega arith
small_number (Some (object ms)) is = omega arith

small_under : (name : List ℕ) (d : Data) → IsSpelled d → number_under name d < 2 ^ 64
small_under name d is = small_number (get name d) (get_spelled name d is)

array_spelled : (o : Option Data) → IfSpelled o → IfItems (option_and_then as_array o)
array_spelled None is = tt
array_spelled (Some null) is = tt
array_spelled (Some (boolean b)) is = tt
array_spelled (Some (number n)) is = tt
array_spelled (Some (string s)) is = tt
array_spelled (Some (array ds)) is = is
array_spelled (Some (object ms)) is = tt

body_items : (name : List ℕ) (o : Option Data) → IfSpelled o
    → IfItems (option_and_then (λ body. option_and_then as_array (get name body)) o)
body_items name None is = tt
body_items name (Some body) is = array_spelled (get name body) (get_spelled name body is)

items_spelled : (name : List ℕ) (d : Data) → IsSpelled d → IfItems (answer_items name d)
items_spelled name d is = body_items name (get (codes "body") d) (get_spelled (codes "body") d is)

-- What is said --------------------------------------------------------------------------------------------------------

threads_small : (ds : Items) → AreSpelled ds → AllByRecursion IsHeading (threads_among ds)
threads_small no_items are = tt
threads_small (item d ds) are = (small_under (codes "id") d are.0, threads_small ds are.1)

frames_small : (place : ℕ) (ds : Items) → AreSpelled ds → AllByRecursion IsHeading (frames_from place ds)
frames_small place no_items are = tt
frames_small place (item d ds) are = (small_under (codes "id") d are.0, frames_small (place + 1) ds are.1)

scope_small : (ds : Items) → AreSpelled ds → first_scope ds < 2 ^ 64
scope_small no_items are = omega arith
scope_small (item d ds) are = small_under (codes "variablesReference") d are.0

threads_if : (o : Option Items) → IfItems o → AllByRecursion IsHeading (option_map_or threads_among o [])
threads_if None are = tt
threads_if (Some ds) are = threads_small ds are

frames_if : (o : Option Items) → IfItems o → AllByRecursion IsHeading (option_map_or (frames_from 0) o [])
frames_if None are = tt
frames_if (Some ds) are = frames_small 0 ds are

scope_if : (o : Option Items) → IfItems o → option_map_or first_scope o 0 < 2 ^ 64
scope_if None are = omega arith
scope_if (Some ds) are = scope_small ds are

threads_bound : (d : Data) → IsSpelled d → AllByRecursion IsHeading (threads_said d)
threads_bound d is = threads_if (answer_items (codes "threads") d) (items_spelled (codes "threads") d is)

frames_bound : (d : Data) → IsSpelled d → AllByRecursion IsHeading (frames_said d)
frames_bound d is = frames_if (answer_items (codes "stackFrames") d) (items_spelled (codes "stackFrames") d is)

scope_bound : (d : Data) → IsSpelled d → scope_said d < 2 ^ 64
scope_bound d is = scope_if (answer_items (codes "scopes") d) (items_spelled (codes "scopes") d is)

-- Steps of a conversation ---------------------------------------------------------------------------------------------

abbrev IfHeading : Option Heading → Type 0
IfHeading None = Unit {0}
IfHeading (Some heading) = IsHeading heading

heading_at : (headings : List Heading) (place : ℕ) → AllByRecursion IsHeading headings
    → IfHeading (slice_get headings place)
heading_at [] place are = tt
heading_at (heading ∷ headings) zero are = are.0
heading_at (heading ∷ headings) (suc place) are = heading_at headings place are.1

module _ (most : ℕ) where
  behind_in : (step : Due) (c : Conversation) → IsAskable step → IsInBounds most c → IsInBounds most (behind step c)
  behind_in step c small is =
      record { seq = is.seq; due = small; paused = is.paused; threads = is.threads; frames = is.frames }

  text_in : (text : List ℕ) (c : Conversation) → IsInBounds most c → IsInBounds most (with_text text c)
  text_in text c is =
      record { seq = is.seq; due = is.due; paused = is.paused; threads = is.threads; frames = is.frames }

  this_thread : (thread : Option Heading) (c : Conversation) → IfHeading thread → IsInBounds most c
      → IsInBounds most (at_this_thread thread c)
  this_thread None c small is =
      record { seq = is.seq; due = is.paused; paused = is.paused; threads = is.threads; frames = is.frames }
  this_thread (Some thread) c small is =
      record { seq = is.seq; due = small; paused = is.paused; threads = is.threads; frames = is.frames }

  thread_in : (c : Conversation) → IsInBounds most c → IsInBounds most (at_thread c)
  thread_in c is = this_thread (slice_get c.threads c.thread_at) c (heading_at c.threads c.thread_at is.threads) is

  this_frame : (frame : Option Heading) (c : Conversation) → IfHeading frame → IsInBounds most c
      → IsInBounds most (at_this_frame frame c)
  this_frame None c small is = thread_in c is
  this_frame (Some frame) c small is =
      record { seq = is.seq; due = small; paused = is.paused; threads = is.threads; frames = is.frames }

  frame_in : (c : Conversation) → IsInBounds most c → IsInBounds most (at_frame c)
  frame_in c is = this_frame (slice_get c.frames c.frame_at) c (heading_at c.frames c.frame_at is.frames) is

  first_in : (threads : List Heading) (c : Conversation) → AllByRecursion IsHeading threads → IsInBounds most c
      → IsInBounds most (at_first_threads threads c)
  first_in [] c are is =
      record { seq = is.seq; due = tt; paused = is.paused; threads = is.threads; frames = is.frames }
  first_in (thread ∷ threads) c are is =
      record { seq = is.seq; due = are.0; paused = are.0; threads = is.threads; frames = is.frames }

  threads_in : (threads : List Heading) (c : Conversation) → AllByRecursion IsHeading threads → IsInBounds most c
      → IsInBounds most (record c { threads = threads; thread_at = 0 })
  threads_in threads c are is =
      record { seq = is.seq; due = is.due; paused = is.paused; threads = are; frames = is.frames }

  frames_in : (frames : List Heading) (c : Conversation) → AllByRecursion IsHeading frames → IsInBounds most c
      → IsInBounds most (record c { frames = frames; frame_at = 0 })
  frames_in frames c are is =
      record { seq = is.seq; due = is.due; paused = is.paused; threads = is.threads; frames = are }

  stack_in : (failure : Option ℕ) (d : Data) (c : Conversation) → IsSpelled d → IsInBounds most c
      → IsInBounds most (at_stack_by failure d c)
  stack_in None d c spelled is =
      frame_in (record c { frames = frames_said d; frame_at = 0 }) (frames_in (frames_said d) c (frames_bound d spelled) is)
  stack_in (Some code) d c spelled is =
      thread_in (with_text (failure_line (codes "  ") code) c) (text_in (failure_line (codes "  ") code) c is)

  scopes_in : (failure : Option ℕ) (d : Data) (c : Conversation) → IsSpelled d → IsInBounds most c
      → IsInBounds most (at_scopes_by failure d c)
  scopes_in None d c spelled is = behind_in (due.Variables (scope_said d)) c (scope_bound d spelled) is
  scopes_in (Some code) d c spelled is =
      frame_in (with_text (failure_line (codes "    ") code) c) (text_in (failure_line (codes "    ") code) c is)

  variables_in : (failure : Option ℕ) (d : Data) (c : Conversation) → IsInBounds most c
      → IsInBounds most (at_variables_by failure d c)
  variables_in None d c is = frame_in (with_text (variables_said d) c) (text_in (variables_said d) c is)
  variables_in (Some code) d c is =
      frame_in (with_text (failure_line (codes "    ") code) c) (text_in (failure_line (codes "    ") code) c is)

  taken_in : (step : Due) (d : Data) (c : Conversation) → IsSpelled d → IsInBounds most c
      → IsInBounds most (taken_by step d c)
  taken_in due.Initialize d c spelled is = behind_in due.Attach c tt is
  taken_in due.Attach d c spelled is = behind_in due.ConfigurationDone c tt is
  taken_in due.ConfigurationDone d c spelled is = behind_in due.FirstThreads c tt is
  taken_in due.FirstThreads d c spelled is = first_in (threads_said d) c (threads_bound d spelled) is
  taken_in (due.Pause thread) d c spelled is = behind_in due.Threads c tt is
  taken_in due.Threads d c spelled is =
      thread_in (record c { threads = threads_said d; thread_at = 0 })
      (threads_in (threads_said d) c (threads_bound d spelled) is)
  taken_in (due.StackTrace thread) d c spelled is = stack_in (failure_of d) d c spelled is
  taken_in (due.Scopes frame) d c spelled is = scopes_in (failure_of d) d c spelled is
  taken_in (due.Variables reference) d c spelled is = variables_in (failure_of d) d c is
  taken_in (due.Continue thread) d c spelled is = behind_in due.Disconnect c tt is
  taken_in due.Disconnect d c spelled is = behind_in due.Nothing c tt is
  taken_in due.Nothing d c spelled is = behind_in due.Nothing c tt is

  answered_in : (d : Data) (c : Conversation) → IsSpelled d → IsInBounds most c → IsInBounds most (answered d c)
  answered_in d c spelled is =
      taken_in c.due d (record c { waits = false; gone = c.gone || is_gone c.due (failure_of d) }) spelled
      (record { seq = is.seq; due = is.due; paused = is.paused; threads = is.threads; frames = is.frames })

  either_in : (test : Bool) (c c' : Conversation) → IsInBounds most c → IsInBounds most c'
      → IsInBounds most (if test then c else c')
  either_in true c c' is other = is
  either_in false c c' is other = other

  said_in : (message : Option Data) (c : Conversation) → IfSpelled message → IsInBounds most c
      → IsInBounds most (option_map_or (λ d. said d c) message c)
  said_in None c spelled is = is
  said_in (Some d) c spelled is =
      either_in (c.waits && is_response d) (answered d c) c (answered_in d c spelled is) is

-- Frames --------------------------------------------------------------------------------------------------------------

read_if : (text : List ℕ) (value : Option Data) → is_utf8 text ≡ true → read text ≡ value → IfSpelled value
read_if text None utf8 is = tt
read_if text (Some d) utf8 is = read_spelled text d (IsUtf8-from_is_utf8 text utf8) is

value_spelled : (text : List ℕ) (utf8 : Bool) → is_utf8 text ≡ utf8 → IfSpelled (if utf8 then read text else None)
value_spelled text true is = read_if text (read text) is refl
value_spelled text false is = tt

message_spelled : (frame : List ℕ) → IfSpelled (message_in frame)
message_spelled frame = value_spelled (body_in frame) (is_utf8 (body_in frame)) refl

pub heard_in : (most : ℕ) (c : Conversation) (frame : List ℕ) → IsInBounds most c → IsInBounds most (heard frame c)
heard_in most c frame is = said_in most (message_in frame) c (message_spelled frame) is

-- Requests ------------------------------------------------------------------------------------------------------------

raised_by : (last : Bool) (seq most : ℕ) → (seq == last_count) ≡ last → seq ≤ most
    → (if last then last_count else seq + 1) ≤ most + 1
raised_by true seq most is less = omega (arith, less, eqb-true seq last_count is)
raised_by false seq most is less = omega (arith, less)

pub asked_in : (most : ℕ) (c : Conversation) → IsInBounds most c → IsInBounds (most + 1) (asked c)
asked_in most c is = record {
  seq = raised_by (c.seq == last_count) c.seq most refl is.seq;
  due = is.due;
  paused = is.paused;
  threads = is.threads;
  frames = is.frames;
}

pub start_in : IsInBounds 1 start
start_in = record { seq = omega arith; due = tt; paused = omega arith; threads = tt; frames = tt }
