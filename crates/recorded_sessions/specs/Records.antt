-- Sessions that were recorded.
use Rattle.std.specs.Prelude.{ℕ, ◌≡◌, false, List}
use Rattle.bridge_serve.specs.Following.{lacks_memory}
use Rattle.bridge_serve.specs.Serving.{Blames, Idles, Keeps}
use Rattle.machine_model.specs.Runs.{Message}
use Rattle.recorded_sessions.specs.declared.recording.Recorded.{Recorded}
use Rattle.run_logs.specs.Runs.{AreRuns, entries_of}
use Rattle.session_endings.specs.declared.ending.Ending.{Ending}
use Rattle.session_endings.specs.declared.ending.Ending.TheVariants.{NoMemory}
use Rattle.session_endings.specs.declared.ending.Limits.{Limits}
use Rattle.session_model.specs.Session.{IsLeft, IsSession}
use Rattle.session_recorder.specs.Books.{entries_in, is_refused}
use Rattle.session_recorder.specs.Recording.{IsKept, IsTied, outside_over}
use Rattle.session_recorder.specs.declared.book.Book.{Book}
use Rattle.wire_core.specs.Outside.{Adds, Outside}
use Rattle.wire_core.specs.declared.outside.Entry.{Entry}

-- where wires tell a log, they logged just this since, but for the parts of sends that failed
pub record IsToldBy (old new : Outside) (kept : List Entry) : Type 0 where
  pub added : List Entry
  pub inside : Adds old new added
  pub is_kept : IsKept added kept

-- These entries are a session within its limits that ended so: that says nothing of wires.
pub record IsSessionOf (limits : Limits) (entries : List Entry) (ending : Ending) : Type 0 where
  pub messages : List Message
  pub turns : ℕ
  pub left : IsLeft limits entries messages turns ending

-- A session was served over wires and recorded: what was kept is a session within the limits that ended so, and not for
-- want of memory; the wires logged just that, where they tell a log; and they tell why it ended.
pub record IsRecord (limits : Limits) (old new : Outside) (r : Recorded) : Type 0 where
  pub session : IsSessionOf limits (entries_of r.runs) r.ending
  pub remembers : ¬ (r.ending ≡ NoMemory)
  pub runs : AreRuns r.runs
  pub told : IsToldBy old new (entries_of r.runs)
  pub blames : Blames old new r.ending
  pub idles : Idles limits old new r.ending

-- a session was served over the recorder of these wires and this book, and the book is tied to the wires
pub record ServesOver (limits : Limits) (old : Outside) (book : Book) (new : Outside) (book' : Book) (ending : Ending)
    : Type 0 where
  pub session : IsSession (outside_over old book) (outside_over new book') limits ending
  pub keeps : Keeps limits.turns (outside_over old book) (outside_over new book')
  pub blames : Blames (outside_over old book) (outside_over new book') ending
  pub idles : Idles limits (outside_over old book) (outside_over new book') ending
  pub tied : IsTied old book new book'

-- what a book has is the record of a session that ended so: memory was not refused, and it didn't end for want of it
pub record IsRecordOf (ending : Ending) (book : Book) (r : Recorded) : Type 0 where
  pub whole : is_refused book ≡ false
  pub remembers : lacks_memory ending ≡ false
  pub ending_is : r.ending ≡ ending
  pub entries : entries_of r.runs ≡ entries_in book
  pub runs : AreRuns r.runs
