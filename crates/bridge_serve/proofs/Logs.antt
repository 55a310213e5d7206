-- How logs grow, and how the words on counts go on from call to call.
use Rattle.std.proofs.Common.{◌≡◌, ℕ, ◌+◌, ◌≤◌, refl, sym, ap, subst, ◌∙◌, arith, Bool, true, false, List, [], ◌++◌}
use Rattle.std.proofs.Common.{append_assoc, append-nil, Option, None, Some, inl, inr}
use Rattle.std.proofs.lemmas.Bool.{cases_lt}
use Rattle.std.specs.Option.{option_map}
use Rattle.bridge_serve.specs.Following.{Waits}
use Rattle.bridge_serve.specs.Names.{Client, Ending, Entry, Side, Target}
use Rattle.bridge_serve.specs.Serving.{Blames, Keeps, RoseBy, WasQuiet}
use Rattle.wire_core.specs.Outside.{Adds, Closes, Counts, Hears, Outside, Rose, SameWaits, StaysOpen, raised}
use Rattle.wire_core.specs.declared.outside.Happening.{Happening}
use Rattle.wire_core.specs.declared.outside.Happening.TheVariants as happenings

-- nothing was logged
pub adds_none : (log : Option (List Entry)) → log ≡ option_map (λ before. before ++ []) log
adds_none None = refl
adds_none (Some log) = ap Some (sym (append-nil log))

grows : (log : Option (List Entry)) (xs ys : List Entry)
    → option_map (λ before. before ++ ys) (option_map (λ before. before ++ xs) log) ≡ option_map
    (λ before. before ++ (xs ++ ys)) log
grows None xs ys = refl
grows (Some log) xs ys = ap Some (append_assoc log xs ys)

-- what was logged by two calls, one after the other
pub adds_more : (a b c : Outside) (xs ys : List Entry) → Adds a b xs → Adds b c ys → Adds a c (xs ++ ys)
adds_more a b c xs ys h k = k ∙ ap (option_map (λ before. before ++ ys)) h ∙ grows a.log xs ys

-- nothing happened
counts_same : (o : Outside) → Counts o o
counts_same o = record {
  client_faults = omega arith;
  target_faults = omega arith;
  client_empties = omega arith;
  target_empties = omega arith;
  open_faults = omega arith;
}

pub keeps_same : (o : Outside) → Keeps 0 o o
keeps_same o = record {
  counts = counts_same o;
  waits = omega arith;
  asked = refl;
  client_closed = λ closed. closed;
  target_closed = λ closed. closed;
}

-- a call that doesn't wait makes no wait, and one that waits makes one
pub no_wait : (old new : Outside) → SameWaits old new → new.waits ≤ old.waits + 0
no_wait old new same = omega (arith, same)

raised_once : (n : ℕ) → raised n ≤ n + 1
raised_once n = grind arith

one_wait : (old new : Outside) → new.waits ≡ raised old.waits → new.waits ≤ old.waits + 1
one_wait old new is = subst (λ (n : ℕ). n ≤ old.waits + 1) (sym is) (raised_once old.waits)

-- both sides stay open or closed
pub keeps_open : {n : ℕ} {old new : Outside} → Counts old new → new.waits ≤ old.waits + n → new.asked ≡ old.asked
    → StaysOpen old new → Keeps n old new
keeps_open counts waits asked stays = record {
  counts = counts;
  waits = waits;
  asked = asked;
  client_closed = λ closed. stays.client ∙ closed;
  target_closed = λ closed. stays.target ∙ closed;
}

-- a side is closed, and the other stays as it is
pub keeps_other : {n : ℕ} {old new : Outside} (side : Side) → Counts old new → new.waits ≤ old.waits + n
    → new.asked ≡ old.asked → Closes side old new → Keeps n old new
keeps_other Client counts waits asked closes = record {
  counts = counts;
  waits = waits;
  asked = asked;
  client_closed = λ closed. closes.closed;
  target_closed = λ closed. closes.other ∙ closed;
}
keeps_other Target counts waits asked closes = record {
  counts = counts;
  waits = waits;
  asked = asked;
  client_closed = λ closed. closes.other ∙ closed;
  target_closed = λ closed. closes.closed;
}

-- whatever came
pub keeps_heard : (old new : Outside) (buffer : List ℕ) (happening : Happening) → Hears old new buffer happening
    → Keeps 1 old new
keeps_heard old new buffer (happenings.Bytes side n) came =
    keeps_open came.counts (one_wait old new came.waits) came.asked came.happens.3
keeps_heard old new buffer (happenings.Shut side) came =
    keeps_other side came.counts (one_wait old new came.waits) came.asked came.happens
keeps_heard old new buffer (happenings.Failed side) came =
    keeps_other side came.counts (one_wait old new came.waits) came.asked came.happens.0
keeps_heard old new buffer happenings.Quiet came =
    keeps_open came.counts (one_wait old new came.waits) came.asked came.happens.0

-- two calls, one after the other
pub keeps_on : {n m : ℕ} {a b c : Outside} → Keeps n a b → Keeps m b c → Keeps (n + m) a c
keeps_on h k =
    let p = h.counts in
    let q = k.counts in
    record {
      counts = record {
        client_faults = omega (arith, p.client_faults, q.client_faults);
        target_faults = omega (arith, p.target_faults, q.target_faults);
        client_empties = omega (arith, p.client_empties, q.client_empties);
        target_empties = omega (arith, p.target_empties, q.target_empties);
        open_faults = omega (arith, p.open_faults, q.open_faults);
      };
      waits = (let first = h.waits in let then_on = k.waits in omega (arith, first, then_on));
      asked = k.asked ∙ h.asked;
      client_closed = λ closed. k.client_closed (h.client_closed closed);
      target_closed = λ closed. k.target_closed (h.target_closed closed);
    }

-- and no more waits than may be
pub keeps_within : {n m : ℕ} {a b : Outside} → n ≤ m → Keeps n a b → Keeps m a b
keeps_within less k = record {
  counts = k.counts;
  waits = (let most = k.waits in omega (arith, less, most));
  asked = k.asked;
  client_closed = k.client_closed;
  target_closed = k.target_closed;
}

-- a count that rose in a later call rose in all
rose_on : {a b : ℕ} (c : ℕ) → a ≤ b → Rose b c → Rose a c
rose_on c h (inl k) = inl (omega (arith, h, k))
rose_on c h (inr k) = inr k

pub blames_on : {n : ℕ} {a b : Outside} (c : Outside) (ending : Ending) → Keeps n a b → Blames b c ending → Blames a c ending
blames_on c ending h k = record {
  client = λ is_link. rose_on _ h.counts.client_faults (k.client is_link);
  target = λ is_link. rose_on _ h.counts.target_faults (k.target is_link);
  client_lost = k.client_lost;
  target_lost = k.target_lost;
  client_left = k.client_left;
}

-- a count that rose and then didn't fall
rose_then : {a b c : ℕ} → a ≤ b → Rose a b → b ≤ c → Rose a c
rose_then h (inl k) less = inl (omega (arith, h, k, less))
rose_then {a} {b} {c} h (inr k) less =
    elim (cases_lt b c) [ inl more ↦ inl (omega (arith, h, more)) | inr most ↦ inr (omega (arith, k, less, most)) ]

pub blames_then : {n m : ℕ} {a b c : Outside} (ending : Ending) → Keeps n a b → Blames a b ending → Keeps m b c
    → Blames a c ending
blames_then ending h blames k = record {
  client = λ is_link. rose_then h.counts.client_faults (blames.client is_link) k.counts.client_faults;
  target = λ is_link. rose_then h.counts.target_faults (blames.target is_link) k.counts.target_faults;
  client_lost = λ is_link. k.client_closed (blames.client_lost is_link);
  target_lost = λ is_link. k.target_closed (blames.target_lost is_link);
  client_left = λ has_left. k.client_closed (blames.client_left has_left);
}

-- Waits in vain -------------------------------------------------------------------------------------------------------

-- a side that is open now was open
was_open : {was now : Bool} → (was ≡ false → now ≡ false) → now ≡ true → was ≡ true
was_open {was = true} closed is_open = refl
was_open {was = false} closed is_open = let no = closed refl in cc

-- a count that rose so often doesn't fall
rose_by_then : (n a b c : ℕ) → RoseBy n a b → b ≤ c → RoseBy n a c
rose_by_then n a b c (inl h) less = inl (omega (arith, h, less))
rose_by_then n a b c (inr h) less = inr (omega (arith, h, less))

-- and rises once more
rose_by_more : (n a b c : ℕ) → RoseBy n a b → Rose b c → RoseBy (n + 1) a c
rose_by_more n a b c (inl h) (inl k) = inl (omega (arith, h, k))
rose_by_more n a b c (inl h) (inr k) = inr (omega (arith, k))
rose_by_more n a b c (inr h) (inl k) = inr (omega (arith, h, k))
rose_by_more n a b c (inr h) (inr k) = inr (omega (arith, k))

pub quiet_none : (o : Outside) → WasQuiet 0 o o
quiet_none o = record { client = λ is_open. inl (omega arith); target = λ is_open. inl (omega arith) }

pub quiet_then : {n k : ℕ} {a b c : Outside} → WasQuiet n a b → Keeps k b c → WasQuiet n a c
quiet_then h k = record {
  client = λ is_open. rose_by_then _ _ _ _ (h.client (was_open k.client_closed is_open)) k.counts.client_empties;
  target = λ is_open. rose_by_then _ _ _ _ (h.target (was_open k.target_closed is_open)) k.counts.target_empties;
}

pub quiet_on : {n m i j : ℕ} {a b c : Outside} → Keeps i a b → WasQuiet n a b → Keeps j b c → Waits b c n m
    → WasQuiet m a c
quiet_on h was k Waits.came =
    let p = h.counts in
    let q = k.counts in
    record {
      client = λ is_open. inl (omega (arith, p.client_empties, q.client_empties));
      target = λ is_open. inl (omega (arith, p.target_empties, q.target_empties));
    }
quiet_on h was k (Waits.in_vain stays client target) = record {
  client = λ is_open.
      let open_then = was_open k.client_closed is_open in
      rose_by_more _ _ _ _ (was.client open_then) (client open_then);
  target = λ is_open.
      let open_then = was_open k.target_closed is_open in
      rose_by_more _ _ _ _ (was.target open_then) (target open_then);
}
