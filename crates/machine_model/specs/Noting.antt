-- How the client is served is what its last `initialize` asked for.
use Rattle.std.specs.Prelude.{◌≡◌, ◌∷◌, ◌++◌, false, cond, List, [], Option, None, Some}
use Rattle.machine_model.specs.Names.{Classes, ClientOptions, Command, Configured, EntryHeld, Functions, Initialize}
use Rattle.machine_model.specs.Names.{Lines, Note, Options, Part, Request, Roots, Steps, StopsAt, Throws, a_response}
use Rattle.machine_model.specs.Rest.{IsAnswer, request_by, response_by, without_response}
use Rattle.dap_messages.specs.declared.told.Response.{Response}
use Rattle.machine_model.specs.Rows.{has_response}
use Rattle.machine_model.specs.Runs.{Message, Run}
use Rattle.machine_model.specs.State.{Hand, Machine, is_gone, usual_options}

-- the options that a request asks for; one other than `initialize` leaves them (DAP specification, Initialize request)
abbrev pub asked_options : Command → ClientOptions → ClientOptions
asked_options (Initialize arguments) options = record {
  lines_from_one = arguments.lines_start_at1;
  columns_from_one = arguments.columns_start_at1;
  shows_types = arguments.supports_variable_type;
}
asked_options _ options = options

-- Among these messages these requests have no response, and those that have one asked for these options.
pub data AreOptions : List Message → List Request → ClientOptions → Type 0 where
  none : AreOptions [] [] usual_options
  aside : {messages : List Message} {requests : List Request} {options : ClientOptions} (message : Message)
      → request_by message ≡ [] → response_by message ≡ [] → AreOptions messages requests options
      → AreOptions (messages ++ message ∷ []) requests options
  hears : {messages : List Message} {requests : List Request} {options : ClientOptions} (request : Request)
      → AreOptions messages requests options
      → AreOptions (messages ++ Message.hears request ∷ []) (requests ++ request ∷ []) options
  responds : {messages : List Message} {requests : List Request} {options : ClientOptions} {request : Request}
      (response : Response) → IsAnswer request response → AreOptions messages (request ∷ requests) options
      → AreOptions (messages ++ Message.tells (a_response response) ∷ []) requests
      (asked_options request.command options)

abbrev pub note_options : Note → ClientOptions → ClientOptions
note_options (Options noted) options = noted
note_options (Roots roots) options = options
note_options (Lines key path entries) options = options
note_options (Functions entries) options = options
note_options (StopsAt caught uncaught) options = options
note_options (Steps step) options = options
note_options (Throws thrown) options = options
note_options (Classes classes) options = options
note_options EntryHeld options = options
note_options Configured options = options

abbrev pub part_options : Part → ClientOptions → ClientOptions
part_options (Part.Notes note) options = note_options note options
part_options _ options = options

-- what is left of an item writes these down
abbrev pub options_noted : List Part → ClientOptions → ClientOptions
options_noted [] options = options
options_noted (part ∷ parts) options = options_noted parts (part_options part options)

-- the options; those that the item in hand asked for are written down in the step behind its response
abbrev pub options_in : Option Hand → ClientOptions → ClientOptions
options_in None options = options
options_in (Some hand) options = cond (has_response hand.parts) options (options_noted hand.parts options)

-- Until the target is gone, the client is served as the last `initialize` that has its response asked for.
abbrev pub Notes : Type 0
Notes = (messages : List Message) (m : Machine) → Run messages m → is_gone m.state.phase ≡ false
    → AreOptions messages (without_response m) (options_in m.hand m.state.options)
