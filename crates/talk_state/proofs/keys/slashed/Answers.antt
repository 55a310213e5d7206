use Rattle.std.proofs.Common.{◌≡◌, ◌∙◌, ◌++◌, ◌∷◌, List, [], ℕ, ap, map, map-id, sym}
use Rattle.std.proofs.lemmas.Iterator.{YieldsList-from_chars}
use Rattle.std.proofs.lemmas.Iterator.Consumers.{YieldsList-end}
use Rattle.std.proofs.lemmas.List.{append-nil, map-append}
use Rattle.std.proofs.lemmas.Str.{encodes-append}
use Rattle.std.specs.Char.{encode_utf8}
use Rattle.std.specs.Str.{encode_utf8_all}
use Rattle.machine_model.specs.Breakpoints.{slash_for}
use Rattle.talk_state.proofs.keys.slashed.Goals as goal

-- one character more
more : (chars : List ℕ) (char : ℕ)
    → encode_utf8_all (map slash_for (chars ++ char ∷ []))
    ≡ encode_utf8_all (map slash_for chars) ++ encode_utf8 (slash_for char)
more chars char =
    ap encode_utf8_all (map-append slash_for chars (char ∷ []))
    ∙ encodes-append (map slash_for chars) (slash_for char ∷ [])
    ∙ ap (λ last. encode_utf8_all (map slash_for chars) ++ last) (append-nil (encode_utf8 (slash_for char)))

pub loop-char-preserved : goal.loop-char-preserved
loop-char-preserved c =
    rw (c.loop-char.invariant, c.slash_for.ensures) at c.in_ok-push.ensures.bytes
    ∙ sym (more c.loop-char.yielded c.in-Some.char)

pub returns : goal.returns
returns c =
    let end = YieldsList-end (YieldsList-from_chars c.args.path.now c.utf8.path cc)
    c.loop-char.yielded _ c.loop-char.yielded_by _ _ c.in-None.is c.next.ensures.steps in
    c.loop-char.invariant ∙ ap (λ chars. encode_utf8_all (map slash_for chars))
    (sym (map-id c.loop-char.yielded) ∙ end.0)
