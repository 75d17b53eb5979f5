-- `keys::load_link_keys` meets its contract. The list that loads table 1.
use mathlib.Core.Path.{refl}
use Rattle.keys.proofs.Loads.{link_first, link_list, list_wrong}
use Rattle.keys.specs.Lists.{key_list}
use Rattle.model.specs.Immediate.{link_key_list}
use Rattle.model.specs.Tables.{link_key_rule}
use borrow.Author.Rules.{rules}
use Rattle.keys.proofs.load_link_keys.Goals as goal

pub bounds-ps-0 : goal.bounds-ps-0
bounds-ps-0 c =
    link_first c.args.ps.now _ c.list_fits.ensures c.if-not-list_fits.false

pub load_list-requires : goal.load_list-requires
load_list-requires c =
    (search rules, search rules, link_list _ _ c.list_fits.ensures c.if-not-list_fits.false)

pub returns : goal.returns
unfolding key_list link_key_list link_key_rule
returns c = c.load_list.ensures

pub returns-then-not-list_fits : goal.returns-then-not-list_fits
unfolding key_list link_key_list link_key_rule
returns-then-not-list_fits c =
    list_wrong _ _ _ 1 1 25 _ _ _ _ _ c.requires.0
    c.requires.1 refl refl
    c.list_fits.ensures c.if-not-list_fits.true
    c.refuse.ensures.0 c.refuse.ensures.1
