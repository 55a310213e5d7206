-- What a target replies to each question (JDWP, Detailed Command Information).
use Rattle.std.specs.Prelude.{pos, if◌then◌else◌, map}
use Rattle.jdwp_values.specs.declared.sizes.IdSizes.{IdSizes}
use Rattle.jdwp_commands.specs.declared.answer.Answer.{Answer}
use Rattle.jdwp_commands.specs.declared.answer.Answer.TheVariants as answers
use Rattle.jdwp_commands.specs.declared.asked.Replied.{Replied}
use Rattle.jdwp_commands.specs.declared.asked.Replied.TheVariants as replies
use Rattle.jdwp_commands.specs.declared.question.Question.{Question}
use Rattle.jdwp_commands.specs.declared.question.Question.TheVariants as questions
use Rattle.world_model.specs.declared.world.World.{World}
use Rattle.world_model.specs.Codes.{told, vm_dead}
use Rattle.world_model.specs.Classes.{classes_of, loaded_class, signature_in, fields_in, methods_in, source_in}
use Rattle.world_model.specs.Classes.{above_in}
use Rattle.world_model.specs.Classes.{lines_in, variables_in}
use Rattle.world_model.specs.Threads.{name_in, frames_in, frame_count_in, slots_in}
use Rattle.world_model.specs.Objects.{type_in, fields_of_object, text_in, length_in, elements_in, this_in}

-- how many bytes an id of each kind takes (JDWP, VirtualMachine command set, IDSizes)
abbrev pub sizes_answer : IdSizes → Answer
sizes_answer sizes = answers.IdSizes sizes.field sizes.method sizes.object sizes.class sizes.frame

-- the reply of a target that has not ended
abbrev pub living_reply : World → Question → Replied
-- JDWP, VirtualMachine command set, ClassesBySignature, AllClasses, AllThreads and IDSizes
living_reply w (questions.ClassesBySignature signature) =
    replies.Answer (answers.ClassesBySignature (classes_of w signature))
living_reply w questions.AllClasses = replies.Answer (answers.AllClasses (map loaded_class w.classes))
living_reply w questions.AllThreads = replies.Answer (answers.AllThreads (map (λ row. row.id) w.threads))
living_reply w questions.IdSizes = replies.Answer (sizes_answer w.sizes)
-- JDWP, ReferenceType command set, Signature, Fields, Methods and SourceFile
living_reply w (questions.Signature class) = told answers.Signature (signature_in w class)
living_reply w (questions.Fields class) = told answers.Fields (fields_in w class)
living_reply w (questions.Methods class) = told answers.Methods (methods_in w class)
living_reply w (questions.SourceFile class) = told answers.SourceFile (source_in w class)
-- JDWP, ClassType command set, Superclass
living_reply w (questions.Superclass class) = told answers.Superclass (above_in w class)
-- JDWP, Method command set, LineTable and VariableTable: no slots are said to be those of arguments
living_reply w (questions.LineTable class method) = told answers.LineTable (lines_in w class method)
living_reply w (questions.VariableTable class method) =
    told (answers.VariableTable (pos 0)) (variables_in w class method)
-- JDWP, ObjectReference command set, ReferenceType and GetValues
living_reply w (questions.ObjectType object) = told (λ t. answers.ObjectType t.0 t.1) (type_in w object)
living_reply w (questions.GetFields object fields) = told answers.GetFields (fields_of_object w object fields)
-- JDWP, StringReference command set, Value
living_reply w (questions.StringValue object) = told answers.StringValue (text_in w object)
-- JDWP, ThreadReference command set, Name, Frames and FrameCount
living_reply w (questions.ThreadName thread) = told answers.ThreadName (name_in w thread)
living_reply w (questions.Frames thread start n) = told answers.Frames (frames_in w thread start n)
living_reply w (questions.FrameCount thread) = told answers.FrameCount (frame_count_in w thread)
-- JDWP, ArrayReference command set, Length and GetValues
living_reply w (questions.ArrayLength array) = told answers.ArrayLength (length_in w array)
living_reply w (questions.GetElements array first n) = told answers.GetElements (elements_in w array first n)
-- JDWP, StackFrame command set, GetValues and ThisObject
living_reply w (questions.GetSlots thread frame slots) = told answers.GetSlots (slots_in w thread frame slots)
living_reply w (questions.ThisObject thread frame) = told answers.ThisObject (this_in w thread frame)

-- the reply of a target; one that has ended replies so to all
abbrev pub reply_of : World → Question → Replied
reply_of w question = if w.dead then replies.Error vm_dead else living_reply w question
