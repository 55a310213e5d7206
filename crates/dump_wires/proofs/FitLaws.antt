-- What the wires of a dump tell, where those inside are as the desk takes them for.
use Rattle.std.proofs.Common.{◌≡◌, Bool, true, false, not, ◌&&◌, ◌||◌, inl, inr, refl, sym, ap, subst}
use Rattle.dump_wires.specs.Desks.{outside_of}
use Rattle.dump_wires.specs.Talking.{fits, outside_over, told_if}
use Rattle.dump_wires.specs.declared.desk.Desk.{Desk}
use Rattle.wire_core.specs.Outside.{HasOpen, IsOpen, Outside}
use Rattle.wire_core.specs.declared.outside.Side.{Side}
use Rattle.wire_core.specs.declared.outside.Side.TheVariants.{Client, Target}

-- what is told as open is told rightly
open_if : (side : Side) (b : Bool) (o : Outside) → IsOpen side (told_if b o) → b ≡ true
open_if side true o is = refl
open_if Client false o is = absurd cc
open_if Target false o is = absurd cc

pub open_fits : (side : Side) (o : Outside) (d : Desk) → IsOpen side (outside_over o d) → fits o d ≡ true
open_fits side o d is = open_if side (fits o d) (outside_of d) is

pub has_fits : (o : Outside) (d : Desk) → HasOpen (outside_over o d) → fits o d ≡ true
has_fits o d (inl client) = open_fits Client o d client
has_fits o d (inr target) = open_fits Target o d target

-- the desk tells it then
pub told_same : (o : Outside) (d : Desk) → fits o d ≡ true → outside_over o d ≡ outside_of d
told_same o d is = ap (λ (b : Bool). told_if b (outside_of d)) is

-- what holds of what the desk tells holds of what the wires tell
pub over : (P : Outside → Outside → Type 0) (o o' : Outside) (d d' : Desk) → fits o d ≡ true → fits o' d' ≡ true
    → P (outside_of d) (outside_of d') → P (outside_over o d) (outside_over o' d')
over P o o' d d' was is p =
    subst (λ (x : Outside). P (outside_over o d) x) (sym (told_same o' d' is))
    (subst (λ (x : Outside). P x (outside_of d')) (sym (told_same o d was)) p)

pub open_desk : (side : Side) (o : Outside) (d : Desk) → IsOpen side (outside_over o d) → IsOpen side (outside_of d)
open_desk side o d is =
    subst (λ (x : Outside). IsOpen side x) (told_same o d (open_fits side o d is)) is

pub has_desk : (o : Outside) (d : Desk) → HasOpen (outside_over o d) → HasOpen (outside_of d)
has_desk o d is = subst (λ (x : Outside). HasOpen x) (told_same o d (has_fits o d is)) is

-- The wires inside ----------------------------------------------------------------------------------------------------

no_client : (c t o : Bool) → (not c && (not t || o)) ≡ true → c ≡ false
no_client true t o is = absurd cc
no_client false t o is = refl

has_target : (c t o : Bool) → (not c && (not t || o)) ≡ true → t ≡ true → o ≡ true
has_target true t o is open_ = absurd cc
has_target false true true is open_ = refl
has_target false true false is open_ = absurd cc
has_target false false o is open_ = absurd cc

fits_if : (c t o : Bool) → c ≡ false → (t ≡ true → o ≡ true) → (not c && (not t || o)) ≡ true
fits_if true t o none open_ = absurd cc
fits_if false true true none open_ = refl
fits_if false true false none open_ = let no : false ≡ true = open_ refl in absurd cc
fits_if false false o none open_ = refl

-- there is no client inside
pub client_none : (o : Outside) (d : Desk) → fits o d ≡ true → o.client.is_open ≡ false
client_none o d is = no_client o.client.is_open d.journal.links.target.is_open o.target.is_open is

-- the target is there, where its side is open
pub target_there : (o : Outside) (d : Desk) → fits o d ≡ true → IsOpen Target (outside_of d) → IsOpen Target o
target_there o d is open_ = has_target o.client.is_open d.journal.links.target.is_open o.target.is_open is open_

pub fits_still : (o : Outside) (d : Desk) → o.client.is_open ≡ false → (IsOpen Target (outside_of d) → IsOpen Target o)
    → fits o d ≡ true
fits_still o d none open_ =
    fits_if o.client.is_open d.journal.links.target.is_open o.target.is_open none open_
