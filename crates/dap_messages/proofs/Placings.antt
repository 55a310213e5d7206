-- Members put one after another into an object, where their names ascend.
use Rattle.std.proofs.Common.{◌≡◌, List, [], ◌∷◌, ◌++◌, ℕ, Bool, true, false, ◌&&◌, IsTrue, Option, Some, None, Bor, Ordering, Less}
use Rattle.std.proofs.Common.{Equal, Greater, nat_cmp, refl, ap, ◌∙◌, rules}
use Rattle.std.specs.Ordering.{is_gt}
use Rattle.std.specs.Cmp.Lexicographic.{slice_cmp}
use Rattle.serde_json.specs.Data.{Data, Members, no_members, member, put}
use Rattle.dap_messages.specs.Members.{ascends, is_before, member_data, members_data}
use Rattle.dap_messages.specs.Objects.{maybe_member, members_of}
use Rattle.dap_messages.specs.declared.objects.Member.{Member}

-- the members, with this one where there is one
abbrev pub placed_one : List ℕ → Option Data → Members → Members
placed_one name None members = members
placed_one name (Some said) members = put name said members

-- the members, with these
abbrev pub placed : List (Bor (List ℕ) × Member) → Members → Members
placed [] members = members
placed (m ∷ ms) members = placed ms (placed_one m.0.now (member_data m.1) members)

both : (a b : Bool) → IsTrue (a && b) → IsTrue a × IsTrue b
both true b h = search rules
both false b h = search rules

greater : (o : Ordering) → IsTrue (is_gt o) → o ≡ Greater
greater Less h = search rules
greater Equal h = search rules
greater Greater h = refl

placed_one-after : (name low : List ℕ) (said : Option Data) (first : Data) (others : Members) →
    slice_cmp nat_cmp name low ≡ Greater →
    placed_one name said (member low first others) ≡ member low first (placed_one name said others)
placed_one-after name low None first others h = refl
placed_one-after name low (Some d) first others h = rw h refl

-- members whose names are above a first one's go after it
placed-after : (ms : List (Bor (List ℕ) × Member)) (low : List ℕ) (first : Data) (others : Members) →
    IsTrue (is_before low ms) → placed ms (member low first others) ≡ member low first (placed ms others)
placed-after [] low first others h = refl
placed-after (m ∷ ms) low first others h =
    let h2 = both (is_gt (slice_cmp nat_cmp m.0.now low)) (is_before low ms) h in
    ap (placed ms) (placed_one-after m.0.now low (member_data m.1) first others (greater _ h2.0))
    ∙ placed-after ms low first (placed_one m.0.now (member_data m.1) others) h2.1

placed-first : (m : Bor (List ℕ) × Member) (ms : List (Bor (List ℕ) × Member)) (said : Option Data) →
    IsTrue (is_before m.0.now ms) → placed ms no_members ≡ members_of (members_data ms) →
    placed ms (placed_one m.0.now said no_members) ≡ members_of (maybe_member m.0.now said ++ members_data ms)
placed-first m ms None h is = is
placed-first m ms (Some d) h is = placed-after ms m.0.now d no_members h ∙ ap (member m.0.now d) is

pub placed-ascending : (ms : List (Bor (List ℕ) × Member)) → IsTrue (ascends ms) →
    placed ms no_members ≡ members_of (members_data ms)
placed-ascending [] h = refl
placed-ascending (m ∷ ms) h =
    let h2 = both (is_before m.0.now ms) (ascends ms) h in
    placed-first m ms (member_data m.1) h2.0 (placed-ascending ms h2.1)
