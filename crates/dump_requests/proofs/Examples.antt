-- What is read of the requests of a dump, as types.
use Rattle.std.proofs.Common.{◌≡◌, ◌^◌, true, false, [], ◌∷◌, codes, refl}
use Rattle.dap_messages.specs.declared.requests.Command.{Command}
use Rattle.dap_messages.specs.declared.requests.Command.TheVariants.{Attach, BadArguments, ConfigurationDone, Continue}
use Rattle.dap_messages.specs.declared.requests.Command.TheVariants.{Disconnect, Initialize, Pause, Scopes, StackTrace}
use Rattle.dap_messages.specs.declared.requests.Command.TheVariants.{Threads, Variables}
use Rattle.dap_messages.specs.declared.requests.Filter.TheVariants.{Both}
use Rattle.dump_client.specs.Conversing.{start}
use Rattle.dump_client.specs.declared.due.Due.{Due}
use Rattle.dump_client.specs.declared.due.Due.TheVariants as due
use Rattle.dump_requests.specs.Bounds.{request_meant}

meant : Due → Command
meant step = (request_meant (record start { due = step; seq = 5 })).command

number : (request_meant (record start { due = due.Threads; seq = 5 })).seq ≡ 5
number = refl

initialize : meant due.Initialize
    ≡ Initialize (record {
      adapter_id = codes "dump";
      lines_start_at1 = true;
      columns_start_at1 = true;
      supports_variable_type = true;
    })
unfolding meant
initialize = refl

attach : meant due.Attach ≡ Attach (record { source_roots = codes "/" ∷ [] })
unfolding meant
attach = refl

configured : meant due.ConfigurationDone ≡ ConfigurationDone
unfolding meant
configured = refl

first_threads : meant due.FirstThreads ≡ Threads
unfolding meant
first_threads = refl

pause : meant (due.Pause 3) ≡ Pause (record { thread_id = 3 })
unfolding meant
pause = refl

threads : meant due.Threads ≡ Threads
unfolding meant
threads = refl

stack : meant (due.StackTrace 3) ≡ StackTrace (record { thread_id = 3; start_frame = 0; levels = 10000 })
unfolding meant
stack = refl

scopes : meant (due.Scopes 7) ≡ Scopes (record { frame_id = 7 })
unfolding meant
scopes = refl

variables : meant (due.Variables 9)
    ≡ Variables (record { variables_reference = 9; filter = Both; start = 0; count = 0 })
unfolding meant
variables = refl

go_on : meant (due.Continue 3) ≡ Continue (record { thread_id = 3 })
unfolding meant
go_on = refl

leave : meant due.Disconnect ≡ Disconnect (record { terminate_debuggee = false })
unfolding meant
leave = refl

-- a number that no thread has is an argument that breaks its rule, and no fault of the bytes
too_large : meant (due.Pause (2 ^ 31)) ≡ BadArguments (codes "threadId")
unfolding meant
too_large = refl
