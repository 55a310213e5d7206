-- A conversation, answer by answer.
use Rattle.std.proofs.Common.{◌≡◌, ℕ, true, List, [], ◌∷◌, codes, refl}
use Rattle.std.specs.Fmt.{digits}
use Rattle.std.specs.Str.{chars, is_utf8}
use lib.Utf8.{encode}
use Rattle.serde_json.specs.Data.{Data, array, boolean, number, object, string, unsigned}
use Rattle.serde_json.specs.Data.{item, no_items, member, no_members}
use Rattle.jdwp_values.specs.Lossy.{lossy, lossy_after}
use Rattle.value_views.specs.Quotes.{quote}
use Rattle.dump_client.specs.Conversing.{answered, asked, start}
use Rattle.dump_client.specs.Messages.{body_in}
use Rattle.dump_client.specs.declared.conversation.Conversation.{Conversation}

-- requests are made and answered so
play : List Data → Conversation → Conversation
play [] c = c
play (d ∷ ds) c = play ds (answered d (asked c))

success : Data → Data
success body = object (member (codes "body") body (member (codes "success") (boolean true) no_members))

failure : ℕ → Data
failure code =
    object (member (codes "body")
    (object (member (codes "error") (object (member (codes "id") (number (unsigned code)) no_members)) no_members)) no_members)

nothing : Data
nothing = success (object no_members)

no_threads : Data
no_threads = success (object (member (codes "threads") (array no_items) no_members))

one_thread : Data
one_thread =
    success (object (member (codes "threads")
    (array (item (object (member (codes "id") (number (unsigned 1))
    (member (codes "name") (string (codes "main")) no_members))) no_items)) no_members))

one_frame : Data
one_frame =
    success (object (member (codes "stackFrames")
    (array (item (object (member (codes "id") (number (unsigned 7))
    (member (codes "line") (number (unsigned 1))
    (member (codes "name") (string (codes "gen.Main.run")) no_members)))) no_items)) no_members))

one_scope : Data
one_scope =
    success (object (member (codes "scopes")
    (array (item (object (member (codes "variablesReference") (number (unsigned 3)) no_members)) no_items)) no_members))

one_variable : Data
one_variable =
    success (object (member (codes "variables")
    (array (item (object (member (codes "name") (string (codes "n"))
    (member (codes "type") (string (codes "int"))
    (member (codes "value") (string (codes "0")) no_members)))) no_items)) no_members))

-- a thread with a frame and a variable
shown : (play (nothing ∷ nothing ∷ nothing ∷ one_thread ∷ nothing ∷ one_thread ∷ one_frame ∷ one_scope ∷ one_variable
    ∷ nothing ∷ nothing ∷ []) start).text ≡ codes "thread 1 \"main\"\n  #0 gen.Main.run:1\n    n: int = 0\nend 1\n"
unfolding play success nothing one_thread one_frame one_scope one_variable quote digits chars
    is_utf8 encode lossy lossy_after
shown = refl

-- no thread: nothing is paused
none_shown : (play (nothing ∷ nothing ∷ nothing ∷ no_threads ∷ nothing ∷ []) start).text ≡ codes "end 0\n"
unfolding play success nothing no_threads digits
none_shown = refl

-- a stack that isn't told, and one whose variables are not
stack_failed : (play (nothing ∷ nothing ∷ nothing ∷ one_thread ∷ nothing ∷ one_thread ∷ failure 9 ∷ []) start).text
    ≡ codes "thread 1 \"main\"\n  failed 9\nend 1\n"
unfolding play success nothing one_thread failure quote digits chars
    is_utf8 encode lossy lossy_after
stack_failed = refl

variables_failed : (play (nothing ∷ nothing ∷ nothing ∷ one_thread ∷ nothing ∷ one_thread ∷ one_frame ∷ one_scope
    ∷ failure 9 ∷ []) start).text ≡ codes "thread 1 \"main\"\n  #0 gen.Main.run:1\n    failed 9\nend 1\n"
unfolding play success nothing one_thread one_frame one_scope failure quote digits chars
    is_utf8 encode lossy lossy_after
variables_failed = refl

-- a target that has gone is told of, but not at the leave
gone : (play (nothing ∷ failure 10 ∷ []) start).gone ≡ true
unfolding play success nothing failure
gone = refl

-- the body of a frame
body : body_in (codes "Content-Length: 2\r\n\r\n{}") ≡ codes "{}"
body = refl
