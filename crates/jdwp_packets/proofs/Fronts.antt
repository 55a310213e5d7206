-- What stands at the front of a stream of packets, case by case.
use Rattle.std.proofs.Common.{◌≡◌, ℕ, ◌<◌, ◌≤◌, Bool, true, false, ◌||◌, eqb, List, length, take, refl, arith, inl, inr}
use Rattle.std.proofs.lemmas.Bool.{lt-ltb, le-ltb, cases_lt, cases_Bool}
use Rattle.wire_core.specs.Streams.{waits, whole, faulty}
use Rattle.jdwp_packets.specs.declared.fault.PacketFault.TheVariants.{ShortLength, TooLong, BadFlags}
use Rattle.jdwp_packets.specs.Packets.{size_of, flags_of, packet_of, packet_front, IsSized}

-- whether flags are a command's or a reply's
abbrev pub has_kind : ℕ → Bool
has_kind flags = eqb flags 0 || eqb flags 128

module _ (bytes : List ℕ) where
  pub front-no_length : length bytes < 4 → packet_front bytes ≡ waits
  front-no_length few = rw (lt-ltb (length bytes) 4 few) refl

  pub front-short : 4 ≤ length bytes → size_of bytes < 11 → packet_front bytes ≡ faulty ShortLength 0
  front-short four short = rw (le-ltb (length bytes) 4 four, lt-ltb (size_of bytes) 11 short) refl

  pub front-long : 4 ≤ length bytes → 67108864 < size_of bytes → packet_front bytes ≡ faulty TooLong 0
  front-long four long =
      let enough : 11 ≤ size_of bytes = omega arith in
      rw (le-ltb (length bytes) 4 four, le-ltb (size_of bytes) 11 enough, lt-ltb 67108864 (size_of bytes) long) refl

  pub front-no_flags : IsSized bytes → length bytes < 9 → packet_front bytes ≡ waits
  front-no_flags sized few =
      rw (
        le-ltb (length bytes) 4 sized.0,
        le-ltb (size_of bytes) 11 sized.1,
        le-ltb 67108864 (size_of bytes) sized.2,
        lt-ltb (length bytes) 9 few,
      ) refl

  pub front-bad_flags : IsSized bytes → 9 ≤ length bytes → has_kind (flags_of bytes) ≡ false
      → packet_front bytes ≡ faulty BadFlags 0
  front-bad_flags sized nine bad =
      rw (
        le-ltb (length bytes) 4 sized.0,
        le-ltb (size_of bytes) 11 sized.1,
        le-ltb 67108864 (size_of bytes) sized.2,
        le-ltb (length bytes) 9 nine,
        bad,
      ) refl

  pub front-part : IsSized bytes → 9 ≤ length bytes → has_kind (flags_of bytes) ≡ true → length bytes < size_of bytes
      → packet_front bytes ≡ waits
  front-part sized nine good few =
      rw (
        le-ltb (length bytes) 4 sized.0,
        le-ltb (size_of bytes) 11 sized.1,
        le-ltb 67108864 (size_of bytes) sized.2,
        le-ltb (length bytes) 9 nine,
        good,
        lt-ltb (length bytes) (size_of bytes) few,
      ) refl

  pub front-whole : IsSized bytes → has_kind (flags_of bytes) ≡ true → size_of bytes ≤ length bytes
      → packet_front bytes ≡ whole (packet_of (take (size_of bytes) bytes)) (size_of bytes)
  front-whole sized good all =
      let least = sized.1 in
      let nine : 9 ≤ length bytes = omega arith in
      rw (
        le-ltb (length bytes) 4 sized.0,
        le-ltb (size_of bytes) 11 sized.1,
        le-ltb 67108864 (size_of bytes) sized.2,
        le-ltb (length bytes) 9 nine,
        good,
        le-ltb (length bytes) (size_of bytes) all,
      ) refl

  -- the seven cases
  pub data Seen : Type 0 where
    no_length : length bytes < 4 → Seen
    short : 4 ≤ length bytes → size_of bytes < 11 → Seen
    long : 4 ≤ length bytes → 67108864 < size_of bytes → Seen
    no_flags : IsSized bytes → length bytes < 9 → Seen
    bad_flags : IsSized bytes → 9 ≤ length bytes → has_kind (flags_of bytes) ≡ false → Seen
    part : IsSized bytes → 9 ≤ length bytes → has_kind (flags_of bytes) ≡ true → length bytes < size_of bytes → Seen
    all : IsSized bytes → has_kind (flags_of bytes) ≡ true → size_of bytes ≤ length bytes → Seen

  seen-sized : IsSized bytes → 9 ≤ length bytes → Seen
  seen-sized sized nine =
      elim (cases_Bool (has_kind (flags_of bytes))) [
        | inl good ↦
            elim (cases_lt (length bytes) (size_of bytes)) [
              | inl few ↦
                  part sized nine good few
              | inr enough ↦ all sized good enough
            ]
        | inr bad ↦ bad_flags sized nine bad
      ]

  seen-flags : IsSized bytes → Seen
  seen-flags sized =
      elim (cases_lt (length bytes) 9) [ inl few ↦ no_flags sized few | inr nine ↦ seen-sized sized nine ]

  seen-size : 4 ≤ length bytes → Seen
  seen-size four =
      elim (cases_lt (size_of bytes) 11) [
        | inl less ↦ short four less
        | inr least ↦ elim (cases_lt 67108864 (size_of bytes)) [
          | inl more ↦ long four more
          | inr most ↦ seen-flags (four, least, most)
        ]
      ]

  pub seen : Seen
  seen = elim (cases_lt (length bytes) 4) [ inl few ↦ no_length few | inr four ↦ seen-size four ]
