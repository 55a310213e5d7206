use Rattle.script_worlds.proofs.GrowingLaws.{empty_grows, class_grows, method_grows, variable_grows, field_grows}
use Rattle.script_worlds.proofs.GrowingLaws.{object_grows, array_grows, string_grows, put_grows, thread_grows}
use Rattle.script_worlds.proofs.GrowingLaws.{frame_grows}
use Rattle.script_worlds.proofs.laws.a_world_stays_sound_as_it_grows.Goals as goal

pub returns-clause-empty : goal.returns-clause-empty
returns-clause-empty c = empty_grows

pub returns-clause-class : goal.returns-clause-class
returns-clause-class c = class_grows

pub returns-clause-method : goal.returns-clause-method
returns-clause-method c = method_grows

pub returns-clause-variable : goal.returns-clause-variable
returns-clause-variable c = variable_grows

pub returns-clause-field : goal.returns-clause-field
returns-clause-field c = field_grows

pub returns-clause-object : goal.returns-clause-object
returns-clause-object c = object_grows

pub returns-clause-array : goal.returns-clause-array
returns-clause-array c = array_grows

pub returns-clause-string : goal.returns-clause-string
returns-clause-string c = string_grows

pub returns-clause-put : goal.returns-clause-put
returns-clause-put c = put_grows

pub returns-clause-thread : goal.returns-clause-thread
returns-clause-thread c = thread_grows

pub returns-clause-frame : goal.returns-clause-frame
returns-clause-frame c = frame_grows
