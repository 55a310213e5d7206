-- Each request of a dump can be read.
use Rattle.std.proofs.Common.{◌≡◌, ℕ, ◌<◌, ◌≤◌, ◌^◌, Bool, true, false, ◌||◌, if◌then◌else◌, List, codes}
use Rattle.std.proofs.Common.{Some, None, refl, subst, le_trans, arith}
use Rattle.std.specs.Str.{IsUtf8, chars, is_utf8}
use Rattle.std.proofs.lemmas.Bool.{leb-true}
use Rattle.std.proofs.lemmas.Str.{IsUtf8-from_is_utf8}
use lib.Utf8.{encode}
use Rattle.serde_json.specs.Data.{depth}
use Rattle.serde_json.specs.Read.{max_depth}
use Rattle.json_lines.specs.Spelled.{IsSpelled}
use Rattle.dump_client.specs.Conversing.{request_due}
use Rattle.dump_client.specs.Requests.{arguments_of, command_of, is_over, request_of}
use Rattle.dump_client.specs.declared.conversation.Conversation.{Conversation}
use Rattle.dump_client.specs.declared.due.Due.{Due}
use Rattle.dump_client.specs.declared.due.Due.TheVariants as due
use Rattle.dump_client.proofs.RequestLaws.{no_float}
use Rattle.request_frames.specs.Requests.{request_data}
use Rattle.request_laws.specs.Hearing.{CanBeRead, IsHeardAs}
use Rattle.request_laws.proofs.LengthLaws.{room, text_fits}
use Rattle.request_laws.proofs.ReadLaws.{heard_as, spelled}
use Rattle.dump_requests.specs.Bounds.{IsAskable, IsInBounds, request_meant}

utf8 : (text : List ℕ) → is_utf8 text ≡ true → IsUtf8 text
utf8 text e = IsUtf8-from_is_utf8 text e

command_utf8 : (d : Due) → IsUtf8 (command_of d)
unfolding chars is_utf8 encode
command_utf8 due.Initialize = utf8 (codes "initialize") refl
command_utf8 due.Attach = utf8 (codes "attach") refl
command_utf8 due.ConfigurationDone = utf8 (codes "configurationDone") refl
command_utf8 due.FirstThreads = utf8 (codes "threads") refl
command_utf8 (due.Pause thread) = utf8 (codes "pause") refl
command_utf8 due.Threads = utf8 (codes "threads") refl
command_utf8 (due.StackTrace thread) = utf8 (codes "stackTrace") refl
command_utf8 (due.Scopes frame) = utf8 (codes "scopes") refl
command_utf8 (due.Variables reference) = utf8 (codes "variables") refl
command_utf8 (due.Continue thread) = utf8 (codes "continue") refl
command_utf8 due.Disconnect = utf8 (codes "disconnect") refl
command_utf8 due.Nothing = utf8 (codes "") refl

arguments_spelled : (d : Due) → IsAskable d → IsSpelled (arguments_of d)
unfolding chars is_utf8 encode
arguments_spelled due.Initialize small = (
  utf8 (codes "adapterID") refl,
  (utf8 (codes "dump") refl, ((refl, tt), (utf8 (codes "supportsVariableType") refl, (tt, (tt, tt))))),
)
arguments_spelled due.Attach small =
    (utf8 (codes "sourceRoots") refl, ((utf8 (codes "/") refl, tt), (tt, tt)))
arguments_spelled due.ConfigurationDone small = tt
arguments_spelled due.FirstThreads small = tt
arguments_spelled (due.Pause thread) small = (utf8 (codes "threadId") refl, (small, (tt, tt)))
arguments_spelled due.Threads small = tt
arguments_spelled (due.StackTrace thread) small = (
  utf8 (codes "levels") refl,
  (omega arith, ((refl, tt), (utf8 (codes "threadId") refl, (small, (tt, tt))))),
)
arguments_spelled (due.Scopes frame) small = (utf8 (codes "frameId") refl, (small, (tt, tt)))
arguments_spelled (due.Variables reference) small = (utf8 (codes "variablesReference") refl, (small, (tt, tt)))
arguments_spelled (due.Continue thread) small = (utf8 (codes "threadId") refl, (small, (tt, tt)))
arguments_spelled due.Disconnect small = tt
arguments_spelled due.Nothing small = tt

arguments_shallow : (d : Due) → depth (arguments_of d) < max_depth
arguments_shallow due.Initialize = omega arith
arguments_shallow due.Attach = omega arith
arguments_shallow due.ConfigurationDone = omega arith
arguments_shallow due.FirstThreads = omega arith
arguments_shallow (due.Pause thread) = omega arith
arguments_shallow due.Threads = omega arith
arguments_shallow (due.StackTrace thread) = omega arith
arguments_shallow (due.Scopes frame) = omega arith
arguments_shallow (due.Variables reference) = omega arith
arguments_shallow (due.Continue thread) = omega arith
arguments_shallow due.Disconnect = omega arith
arguments_shallow due.Nothing = omega arith

-- whatever its numbers are, a request has few bytes
few : (seq : ℕ) (d : Due) → room (request_data seq (command_of d) (arguments_of d)) ≤ 16777216
few seq due.Initialize = leb-true _ 16777216 refl
few seq due.Attach = leb-true _ 16777216 refl
few seq due.ConfigurationDone = leb-true _ 16777216 refl
few seq due.FirstThreads = leb-true _ 16777216 refl
few seq (due.Pause thread) = leb-true _ 16777216 refl
few seq due.Threads = leb-true _ 16777216 refl
few seq (due.StackTrace thread) = leb-true _ 16777216 refl
few seq (due.Scopes frame) = leb-true _ 16777216 refl
few seq (due.Variables reference) = leb-true _ 16777216 refl
few seq (due.Continue thread) = leb-true _ 16777216 refl
few seq due.Disconnect = leb-true _ 16777216 refl
few seq due.Nothing = leb-true _ 16777216 refl

can_be_read : (seq : ℕ) (d : Due) → seq < 2 ^ 53 → IsAskable d → CanBeRead seq (command_of d) (arguments_of d)
can_be_read seq d small askable = record {
  in_sequence = small;
  name = command_utf8 d;
  spelled = arguments_spelled d askable;
  shallow = arguments_shallow d;
  plain = no_float d;
  short =
      le_trans (text_fits (request_data seq (command_of d) (arguments_of d))
      (spelled seq (command_of d) (arguments_of d) small (command_utf8 d) (arguments_spelled d askable))) (few seq d);
}

-- what is due is its request
due_is : (none : Bool) (made frame : List ℕ) → (if none then None else Some made) ≡ Some frame → made ≡ frame
due_is true made frame is = absurd cc
due_is false made frame is = cc

pub each_read : (most : ℕ) (c : Conversation) (frame : List ℕ) → most < 2 ^ 53 → IsInBounds most c
    → request_due c ≡ Some frame → IsHeardAs (request_meant c) frame
each_read most c frame few_ bounds is =
    let at = bounds.seq in
    subst (λ (bytes : List ℕ). IsHeardAs (request_meant c) bytes)
    (due_is (c.waits || is_over c.due) (request_of c.seq c.due) frame is)
    (heard_as c.seq (command_of c.due) (arguments_of c.due) (can_be_read c.seq c.due (omega (arith, at, few_)) bounds.due))
