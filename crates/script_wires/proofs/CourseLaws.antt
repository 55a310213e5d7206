-- A script's session is a course of its target.
use Rattle.std.proofs.Common.{◌≡◌, ℕ, Bool, true, false, List, [], ◌∷◌, length, sym, subst}
use Rattle.std.proofs.Common.{Option, None, Some}
use Rattle.wire_core.specs.declared.outside.Side.{Side}
use Rattle.wire_core.specs.declared.outside.Side.TheVariants.{Client, Target}
use Rattle.wire_core.specs.declared.outside.Entry.{Entry}
use Rattle.wire_core.specs.declared.outside.Entry.TheVariants.{In, Out, Shut, Failed, Quiet}
use Rattle.target_server.specs.Courses.{Calls, Course, Goes}
use Rattle.target_server.specs.Hearing.{TargetState}
use Rattle.target_server.specs.Joints.{joint_of}
use Rattle.target_server.proofs.CourseLaws.{fresh_leads}
use Rattle.script_rows.specs.declared.script.Script.{Script}
use Rattle.script_rows.specs.declared.script.Turn.{Turn}
use Rattle.script_rows.specs.declared.script.Turn.TheVariants as lines
use Rattle.script_wires.specs.Played.{Played, Takes, SendsTo}
use Rattle.script_wires.specs.Playing.{Playing, beginning, start_of, come, with_lines, piece, closed, closed_by}
use Rattle.script_wires.specs.Schedules.{ServesAt, MovesOn, ServesIf, MovesIf, Works, Gives, GivesFirst, Settles, Does}
use Rattle.script_wires.specs.Schedules.{GivesIfOpen, GoesOn, Comes}

module _ (begin : TargetState) where
  stays : (old new : Playing) → new ≡ old → Course begin old.target → Course begin new.target
  stays old new same course = subst (λ (p : Playing). Course begin p.target) (sym same) course

  served : (place : ℕ) (old new : Playing) → ServesAt place old new → Course begin old.target → Course begin new.target
  served place old new s course =
      subst (λ (p : Playing). Course begin p.target) (sym s.others) (Course.calls course (Calls.serves place s.serves))

  moved : (old new : Playing) → MovesOn old new → Course begin old.target → Course begin new.target
  moved old new m course =
      subst (λ (p : Playing). Course begin p.target) (sym m.others) (Course.calls course (Calls.advances m.advances))

  came : (side : Side) (n : ℕ) (old : Playing) → Course begin old.target → Course begin (come side n old).target
  came Client n old course = course
  came Target n old course = Course.calls course (Calls.sends n)

  gives : (side : Side) (most : ℕ) (old new : Playing) (said : Option Entry) → Gives side most old said new
      → Course begin old.target → Course begin new.target
  gives side most old new said g course =
      stays (come side (length (piece most side old)) old) new g.rest
      (came side (length (piece most side old)) old course)

  gives_if_open : (most : ℕ) (old new : Playing) (said : Option Entry) → GivesIfOpen most old said new
      → Course begin old.target → Course begin new.target
  gives_if_open most old new said (GivesIfOpen.gives is g) course = gives Client most old new said g course
  gives_if_open most old new said (GivesIfOpen.passes is none same) course = stays old new same course

  works : (moving : Bool) (old new : Playing) → Works moving old new → Course begin old.target → Course begin new.target
  works moving old new (Works.serves s) course = served 0 old new s course
  works moving old new (Works.moves none asks m) course = moved old new m course

  settles : (moving : Bool) (rest : List Turn) (old new : Playing) (said : Option Entry)
      → Settles moving rest old said new → Course begin old.target → Course begin new.target
  settles moving rest old new said (Settles.gives (GivesFirst.of_client some g)) course =
      gives Client 65536 old new said g course
  settles moving rest old new said (Settles.gives (GivesFirst.of_target none some g)) course =
      gives Target 65536 old new said g course
  settles moving rest old new said (Settles.works still none w) course = works moving old new w course
  settles moving rest old new said (Settles.is_done still idle none same) course =
      stays (with_lines rest old) new same course

  serves_if : (place : ℕ) (old new : Playing) → ServesIf place old new → Course begin old.target
      → Course begin new.target
  serves_if place old new (ServesIf.serves s) course = served place old new s course
  serves_if place old new (ServesIf.has_none none same) course = stays old new same course

  moves_if : (old new : Playing) → MovesIf old new → Course begin old.target → Course begin new.target
  moves_if old new (MovesIf.moves m) course = moved old new m course
  moves_if old new (MovesIf.is_held held same) course = stays old new same course

  does : (schedule : List Turn) (old new : Playing) (said : Option Entry) → Does schedule old said new
      → Course begin old.target → Course begin new.target
  does [] old new said d course = stays old new d.1 course
  does (lines.Ask command arguments ∷ rest) old new said d course =
      subst (λ (p : Playing). Course begin p.target) (sym d.1) course
  does (lines.Client most ∷ rest) old new said d course = gives_if_open most (with_lines rest old) new said d course
  does (lines.Target most ∷ rest) old new said d course = gives Target most (with_lines rest old) new said d course
  does (lines.Serve place ∷ rest) old new said d course = serves_if place (with_lines rest old) new d.1 course
  does (lines.Move ∷ rest) old new said d course = moves_if (with_lines rest old) new d.1 course
  does (lines.Settle ∷ rest) old new said d course = settles true rest old new said d course
  does (lines.Deliver ∷ rest) old new said d course = settles false rest old new said d course
  does (lines.Shut side ∷ rest) old new said d course = stays (with_lines rest old) new d.1 course

  goes_on : (old new : Playing) → GoesOn old new → Course begin old.target → Course begin new.target
  goes_on old new GoesOn.none course = course
  goes_on old new (GoesOn.one_more {middle = middle} before steps) course =
      does middle.schedule middle new None steps (goes_on old middle before course)

  -- the end of a side leaves the target as it is
  closes : (entry : Entry) (p : Playing) → Course begin p.target → Course begin (closed_by entry p).target
  closes (In side bytes) p course = course
  closes (Out side bytes) p course = course
  closes (Shut Client) p course = course
  closes (Shut Target) p course = course
  closes (Failed Client) p course = course
  closes (Failed Target) p course = course
  closes Quiet p course = course

  comes : (old new : Playing) (entry : Entry) → Comes old entry new → Course begin old.target → Course begin new.target
  comes old new entry c course =
      let r = c.reaches in
      stays (closed_by entry c.behind) new c.closes
      (closes entry c.behind
      (does r.before.schedule r.before c.behind (Some entry) r.steps (goes_on old r.before r.goes_on course)))

  takes : (old new : TargetState) (bytes : List ℕ) → Takes old bytes new → Course begin old → Course begin new
  takes old new bytes (Takes.all feeds) course = Course.calls course (Calls.feeds bytes feeds)
  takes old new bytes (Takes.some trouble none feeds) course = Course.calls course (Calls.feeds_up_to bytes trouble feeds)
  takes old new bytes (Takes.none trouble is same) course =
      subst (λ (t : TargetState). Course begin t) (sym same) course

  sends : (side : Side) (old new : Playing) (bytes : List ℕ) → SendsTo side old bytes new → Course begin old.target
      → Course begin new.target
  sends Client old new bytes same course = stays old new same course
  sends Target old new bytes t course = takes old.target new.target bytes t.takes course

pub played_course : (script : Script) (alone : Bool) (log : List Entry) (p : Playing) → Played script alone log p
    → Course (beginning script).target p.target
played_course script alone log p Played.begins = Course.begins
played_course script alone log p (Played.reaches {old = old} played same) =
    stays (beginning script).target (closed Client old) p same (played_course script false log old played)
played_course script alone log p (Played.hears {log = before} {old = old} {entry = entry} played c) =
    comes (beginning script).target old p entry c (played_course script alone before old played)
played_course script alone log p (Played.sends {log = before} {old = old} side bytes played s) =
    sends (beginning script).target side old p bytes s (played_course script alone before old played)

pub played_goes : (script : Script) (alone : Bool) (log : List Entry) (p : Playing) → Played script alone log p
    → Goes (joint_of script.world script.program (start_of script.begin)) p.target.joint
played_goes script alone log p played =
    fresh_leads script.world script.program (start_of script.begin) p.target (played_course script alone log p played)
