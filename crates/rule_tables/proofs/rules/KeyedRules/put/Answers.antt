-- The rules stand under its key.
use Rattle.std.proofs.Common.{◌≡◌, Some, None, bytes_eq}
use Rattle.std.specs.List.{position_from}
use Rattle.wish_sets.proofs.TableLaws.{put_is, valued}
use Rattle.rule_tables.proofs.rules.KeyedRules.put.Goals as goal

pub returns-in-Some : goal.returns-in-Some
returns-in-Some c =
    let items = c.self.inside.lists.items in
    let found = c.place_of.ensures.place in
    let is = c.in-Some.is in
    let slice = c.as_slice.ensures.value in
    let at : Some c.in-Some.place ≡ position_from (λ list. bytes_eq c.args.key.now list.0) 0 items = cc in
    let there = valued items c.in-Some.place c.index_mut.result.now c.args.rules c.index_mut.ensures.value in
    let put = put_is bytes_eq c.args.key.now c.args.rules items (Some c.in-Some.place) at in
    let after = c.replace.ensures.after in
    let seen = c.self.view_is in
    cc

pub returns-in_ok-add-in-None : goal.returns-in_ok-add-in-None
returns-in_ok-add-in-None c =
    let items = c.self.inside.lists.items in
    let found = c.place_of.ensures.place in
    let is = c.in-None.is in
    let slice = c.as_slice.ensures.value in
    let at : None ≡ position_from (λ list. bytes_eq c.args.key.now list.0) 0 items = cc in
    let put = put_is bytes_eq c.args.key.now c.args.rules items None at in
    let named = c.in_ok-key-in-None.ensures in
    let added = c.in_ok-add-in-None.ensures in
    let seen = c.self.view_is in
    cc
