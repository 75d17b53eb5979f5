-- `keys::load_long_term_keys` meets its contract. The list that loads table 2.
use mathlib.Core.Path.{refl}
use Rattle.keys.proofs.Loads.{long_term_list, list_wrong}
use Rattle.keys.specs.Lists.{key_list}
use Rattle.model.specs.Immediate.{long_term_key_list}
use Rattle.model.specs.Tables.{long_term_key_rule}
use borrow.Author.Rules.{rules}
use Rattle.keys.proofs.load_long_term_keys.Goals as goal

pub load_list-requires : goal.load_list-requires
load_list-requires c = (search rules, search rules, long_term_list _ _ c.list_fits.ensures c.if-not-list_fits.false)

pub returns : goal.returns
unfolding key_list long_term_key_list long_term_key_rule
returns c = c.load_list.ensures

pub returns-then-not-list_fits : goal.returns-then-not-list_fits
unfolding key_list long_term_key_list long_term_key_rule
returns-then-not-list_fits c =
    list_wrong _ _ _ 2 0 36 _ _ _ _ _ c.requires.0
    c.requires.1 refl refl
    c.list_fits.ensures c.if-not-list_fits.true
    c.refuse.ensures.0 c.refuse.ensures.1
