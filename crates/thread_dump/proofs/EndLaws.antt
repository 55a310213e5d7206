-- A session whose client neither ends nor fails doesn't end by it.
use Rattle.std.proofs.Common.{◌≡◌, ℕ, ◌⊎◌, inl, inr, List, [], ◌∷◌, ◌++◌, take, sym, ◌∙◌, subst}
use Rattle.dump_client.specs.Conversing.{asked, heard}
use Rattle.dump_client.specs.declared.conversation.Conversation.{Conversation}
use Rattle.dump_wires.specs.Talking.{Talks}
use Rattle.machine_model.specs.Runs.{Message}
use Rattle.session_endings.specs.declared.ending.Ending.{Ending}
use Rattle.session_endings.specs.declared.ending.Ending.TheVariants.{ClientLink, Left}
use Rattle.session_endings.specs.declared.ending.Limits.{Limits}
use Rattle.session_model.specs.Causes.{Cause}
use Rattle.session_model.specs.Session.{IsLeft}
use Rattle.session_model.specs.States.{SessionState}
use Rattle.wire_core.specs.Outside.{broken_send}
use Rattle.wire_core.specs.declared.outside.Entry.{Entry}
use Rattle.wire_core.specs.declared.outside.Entry.TheVariants.{In, Out, Shut, Failed, Quiet}
use Rattle.wire_core.specs.declared.outside.Side.{Side}
use Rattle.wire_core.specs.declared.outside.Side.TheVariants.{Client, Target}

-- the client's stream ended or its link failed
abbrev pub HasEnd : List Entry → Type 0
HasEnd [] = ⊥
HasEnd (In side bytes ∷ entries) = HasEnd entries
HasEnd (Out side bytes ∷ entries) = HasEnd entries
HasEnd (Shut Client ∷ entries) = Unit {0}
HasEnd (Shut Target ∷ entries) = HasEnd entries
HasEnd (Failed Client ∷ entries) = Unit {0}
HasEnd (Failed Target ∷ entries) = HasEnd entries
HasEnd (Quiet ∷ entries) = HasEnd entries

pub no_end : (c c' : Conversation) (entries : List Entry) → Talks c entries c' → ¬ HasEnd entries
no_end c c' [] talks has = has
no_end c c' (In Client frame ∷ entries) talks has = no_end (asked c) c' entries talks.1 has
no_end c c' (In Target bytes ∷ entries) talks has = no_end c c' entries talks has
no_end c c' (Out Client frame ∷ entries) talks has = no_end (heard frame c) c' entries talks has
no_end c c' (Out Target bytes ∷ entries) talks has = no_end c c' entries talks has
no_end c c' (Shut Client ∷ entries) talks has = talks
no_end c c' (Shut Target ∷ entries) talks has = no_end c c' entries talks has
no_end c c' (Failed Client ∷ entries) talks has = talks
no_end c c' (Failed Target ∷ entries) talks has = no_end c c' entries talks has
no_end c c' (Quiet ∷ entries) talks has = no_end c c' entries talks has

has_front : (a b : List Entry) → HasEnd a → HasEnd (a ++ b)
has_front [] b has = absurd has
has_front (In side bytes ∷ a) b has = has_front a b has
has_front (Out side bytes ∷ a) b has = has_front a b has
has_front (Shut Client ∷ a) b has = tt
has_front (Shut Target ∷ a) b has = has_front a b has
has_front (Failed Client ∷ a) b has = tt
has_front (Failed Target ∷ a) b has = has_front a b has
has_front (Quiet ∷ a) b has = has_front a b has

has_behind : (a b : List Entry) → HasEnd b → HasEnd (a ++ b)
has_behind [] b has = has
has_behind (In side bytes ∷ a) b has = has_behind a b has
has_behind (Out side bytes ∷ a) b has = has_behind a b has
has_behind (Shut Client ∷ a) b has = tt
has_behind (Shut Target ∷ a) b has = has_behind a b has
has_behind (Failed Client ∷ a) b has = tt
has_behind (Failed Target ∷ a) b has = has_behind a b has
has_behind (Quiet ∷ a) b has = has_behind a b has

-- an ending by the client
abbrev pub IsByClient : Ending → Type 0
IsByClient ending = (ending ≡ Left) ⊎ (ending ≡ ClientLink)

neither : {P : Type 0} {ending : Ending} → ¬ (ending ≡ Left) → ¬ (ending ≡ ClientLink) → IsByClient ending → P
neither left lost (inl is) = absurd (left is)
neither left lost (inr is) = absurd (lost is)

broken_end : (part : List ℕ) → HasEnd (broken_send Client part)
broken_end [] = tt
broken_end (byte ∷ bytes) = tt

pub cause_end : {limits : Limits} {turns : ℕ} {s : SessionState} {ending : Ending} {entries : List Entry} {taken : ℕ}
    → Cause limits turns s ending entries taken → IsByClient ending → HasEnd entries
cause_end (Cause.over on act) by = neither (λ is. cc) (λ is. cc) by
cause_end (Cause.one_thread on act) by = neither (λ is. cc) (λ is. cc) by
cause_end (Cause.shut listens) by = tt
cause_end (Cause.lost Client listens) by = tt
cause_end (Cause.lost Target listens) by = neither (λ is. cc) (λ is. cc) by
cause_end (Cause.broken {side = Client} {bytes = bytes} {kept = kept} on allows speaks less) by =
    broken_end (take kept bytes)
cause_end (Cause.broken {side = Target} on allows speaks less) by = neither (λ is. cc) (λ is. cc) by
cause_end (Cause.misread reads is) by = neither (λ is. cc) (λ is. cc) by
cause_end (Cause.misheard reads is) by = neither (λ is. cc) (λ is. cc) by
cause_end (Cause.misheard_kept reads is) by = neither (λ is. cc) (λ is. cc) by
cause_end (Cause.refused reads has more not_) by = neither (λ is. cc) (λ is. cc) by
cause_end (Cause.flood more) by = neither (λ is. cc) (λ is. cc) by
cause_end (Cause.idle waits more quiet) by = neither (λ is. cc) (λ is. cc) by
cause_end (Cause.spent waits all) by = neither (λ is. cc) (λ is. cc) by

pub left_end : {limits : Limits} {log : List Entry} {messages : List Message} {turns : ℕ} {ending : Ending}
    → IsLeft limits log messages turns ending → IsByClient ending → HasEnd log
left_end (IsLeft.ended ended none) by =
    subst HasEnd (sym ended.log_is)
    (has_front (ended.before ++ ended.by_cause) ended.by_words
    (has_behind ended.before ended.by_cause (cause_end ended.cause by)))
left_end (IsLeft.no_memory going) by = neither (λ is. cc) (λ is. cc) by
left_end (IsLeft.no_memory_then ended) by = neither (λ is. cc) (λ is. cc) by
