-- What a side is taken for: where it is open, whether its link is so, and its faults.
use Rattle.std.proofs.Common.{◌≡◌, ℕ, ◌+◌, ◌<◌, ◌≤◌, min, Bool, true, false, not, ◌⊎◌, inl, inr, ◌&&◌, ◌||◌, refl, sym, ap, ◌∙◌}
use Rattle.std.proofs.Common.{arith, subst}
use Rattle.wire_core.specs.Outside.{Link, Rose, last_count, other_side, raised}
use Rattle.wire_core.specs.declared.outside.Side.{Side}
use Rattle.wire_core.specs.declared.outside.Side.TheVariants.{Client, Target}
use Rattle.wire_core.specs.declared.outside.Happening.{Happening}
use Rattle.wire_core.specs.declared.outside.Happening.TheVariants.{Bytes, Shut, Failed, Quiet}
use Rattle.session_recorder.specs.States.{opens, is_lost, fits, faults_with, closed, state_after}
use Rattle.session_recorder.specs.declared.side_state.SideState.{SideState}
use Rattle.session_recorder.specs.declared.side_state.SideState.TheVariants.{Open, Closed, Lost}

pub and_both : (a b : Bool) → (a && b) ≡ true → (a ≡ true) × (b ≡ true)
and_both true b is = (refl, is)
and_both false b is = absurd cc

pub and_true : (a b : Bool) → a ≡ true → b ≡ true → (a && b) ≡ true
and_true true b is so = so
and_true false b is so = absurd cc

pub or_both : (a b : Bool) → (a || b) ≡ false → (a ≡ false) × (b ≡ false)
or_both true b is = absurd cc
or_both false b is = (refl, is)

pub or_false : (a b : Bool) → a ≡ false → b ≡ false → (a || b) ≡ false
or_false true b is so = absurd cc
or_false false b is so = so

pub opens_is : (s : SideState) → opens s ≡ true → s ≡ Open
opens_is Open is = refl
opens_is Closed is = absurd cc
opens_is Lost is = absurd cc

-- Links ---------------------------------------------------------------------------------------------------------------

pub fits_kept : (s : SideState) (l l' : Link) → l'.is_open ≡ l.is_open → fits s l ≡ true → fits s l' ≡ true
fits_kept Open l l' same is = same ∙ is
fits_kept Closed l l' same is = ap not same ∙ is
fits_kept Lost l l' same is = refl

pub fits_closed : (s : SideState) (l : Link) → l.is_open ≡ false → fits (closed s) l ≡ true
fits_closed Open l is = ap not is
fits_closed Closed l is = ap not is
fits_closed Lost l is = refl

-- a side that is open, and isn't taken for open, was lost
pub fits_lost : (s : SideState) (l l' : Link) → l.is_open ≡ true → opens s ≡ false → fits s l ≡ true → fits s l' ≡ true
fits_lost Open l l' open_ shut is = absurd cc
fits_lost Closed l l' open_ shut is = absurd (clash l.is_open open_ is)
  where
    clash : (b : Bool) → b ≡ true → not b ≡ true → ⊥
    clash true is not_ = cc
    clash false is not_ = cc
fits_lost Lost l l' open_ shut is = refl

pub fits_open : (s : SideState) (l : Link) → opens s ≡ true → fits s l ≡ true → l.is_open ≡ true
fits_open Open l open_ is = is
fits_open Closed l open_ is = absurd cc
fits_open Lost l open_ is = absurd cc

pub opens_closed : (s : SideState) → opens (closed s) ≡ false
opens_closed Open = refl
opens_closed Closed = refl
opens_closed Lost = refl

pub lost_closed : (s : SideState) → is_lost (closed s) ≡ is_lost s
lost_closed Open = refl
lost_closed Closed = refl
lost_closed Lost = refl

pub lost_after : (side : Side) (h : Happening) (s : SideState) → is_lost (state_after side h s) ≡ is_lost s
lost_after side (Bytes k n) s = refl
lost_after Client (Shut Client) s = lost_closed s
lost_after Client (Shut Target) s = refl
lost_after Target (Shut Client) s = refl
lost_after Target (Shut Target) s = lost_closed s
lost_after Client (Failed Client) s = lost_closed s
lost_after Client (Failed Target) s = refl
lost_after Target (Failed Client) s = refl
lost_after Target (Failed Target) s = lost_closed s
lost_after side Quiet s = refl

-- Faults --------------------------------------------------------------------------------------------------------------

pub raised_more : (n : ℕ) → n ≤ raised n
raised_more n = grind arith

raised_rose : (n : ℕ) → (n < raised n) ⊎ (raised n ≡ last_count)
raised_rose n = grind arith

raised_grows : (n m : ℕ) → n ≤ m → raised n ≤ raised m
raised_grows n m le = grind arith

-- the faults of a side don't fall, unless what was lost is no longer so
pub faults_grow : (s s' : SideState) (n n' : ℕ) → (is_lost s ≡ true → is_lost s' ≡ true) → n ≤ n'
    → faults_with s n ≤ faults_with s' n'
faults_grow Open Open n n' stays le = le
faults_grow Open Closed n n' stays le = le
faults_grow Open Lost n n' stays le = let more = raised_more n' in omega arith
faults_grow Closed Open n n' stays le = le
faults_grow Closed Closed n n' stays le = le
faults_grow Closed Lost n n' stays le = let more = raised_more n' in omega arith
faults_grow Lost Open n n' stays le = let no : false ≡ true = stays refl in absurd cc
faults_grow Lost Closed n n' stays le = let no : false ≡ true = stays refl in absurd cc
faults_grow Lost Lost n n' stays le = raised_grows n n' le

-- those of a side that is lost rose
pub faults_lost : (s s' : SideState) (n n' : ℕ) → opens s ≡ true → s' ≡ Lost → n ≤ n'
    → Rose (faults_with s n) (faults_with s' n')
faults_lost Open Open n n' was is le = absurd cc
faults_lost Open Closed n n' was is le = absurd cc
faults_lost Open Lost n n' was is le =
    elim (raised_rose n') [ inl more ↦ inl (omega arith) | inr last ↦ inr last ]
faults_lost Closed s' n n' was is le = absurd cc
faults_lost Lost s' n n' was is le = absurd cc

-- those of a side that failed rose as those inside did
pub faults_failed : (s s' : SideState) (n n' : ℕ) → opens s ≡ true → s' ≡ closed s → Rose n n'
    → Rose (faults_with s n) (faults_with s' n')
faults_failed Open Open n n' was is rose = absurd cc
faults_failed Open Closed n n' was is rose = rose
faults_failed Open Lost n n' was is rose = absurd cc
faults_failed Closed s' n n' was is rose = absurd cc
faults_failed Lost s' n n' was is rose = absurd cc

-- a sum that stops at the last count
pub sum_grows : (a b n m : ℕ) → a ≤ b → n ≤ m → min last_count (a + n) ≤ min last_count (b + m)
sum_grows a b n m le more = omega arith

sum_rises : (a b n m : ℕ) → a ≤ b → n < m → Rose (min last_count (a + n)) (min last_count (b + m))
sum_rises a b n m le less = grind arith

sum_risen : (a b n m : ℕ) → a < b → n ≤ m → Rose (min last_count (a + n)) (min last_count (b + m))
sum_risen a b n m less more = grind arith

pub sum_rose : (a b n m : ℕ) → Rose a b → n ≤ m → Rose (min last_count (a + n)) (min last_count (b + m))
sum_rose a b n m (inl less) more = sum_risen a b n m less more
sum_rose a b n m (inr last) more = inr (omega arith)

pub sum_raised : (a b n m : ℕ) → a ≤ b → m ≡ raised n → Rose (min last_count (a + n)) (min last_count (b + m))
sum_raised a b n m le is =
    elim (raised_rose n) [ inl more ↦ sum_rises a b n m le (omega arith) | inr last ↦ inr (omega arith) ]
