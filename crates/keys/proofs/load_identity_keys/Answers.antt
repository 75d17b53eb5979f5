-- `keys::load_identity_keys` meets its contract. The list that loads table 3.
use mathlib.Core.Path.{refl}
use Rattle.keys.proofs.Loads.{identity_list, list_wrong}
use Rattle.keys.specs.Lists.{key_list}
use Rattle.model.specs.Immediate.{identity_key_list}
use Rattle.model.specs.Tables.{identity_key_rule}
use borrow.Author.Rules.{rules}
use Rattle.keys.proofs.load_identity_keys.Goals as goal

pub load_list-requires : goal.load_list-requires
load_list-requires c = (search rules, search rules, identity_list _ _ c.list_fits.ensures c.if-not-list_fits.false)

pub returns : goal.returns
unfolding key_list identity_key_list identity_key_rule
returns c = c.load_list.ensures

pub returns-then-not-list_fits : goal.returns-then-not-list_fits
unfolding key_list identity_key_list identity_key_rule
returns-then-not-list_fits c =
    list_wrong _ _ _ 3 0 23 _ _ _ _ _ c.requires.0
    c.requires.1 refl refl
    c.list_fits.ensures c.if-not-list_fits.true
    c.refuse.ensures.0 c.refuse.ensures.1
