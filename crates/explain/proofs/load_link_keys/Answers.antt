-- `explain::load_link_keys` meets its contract: its length, then its checks.
use native.Mathlib.Omega.{arith}
use Rattle.model.specs.Immediate.{link_key_list}
use Rattle.model.specs.Tables.{link_key_rule}
use Rattle.why.specs.Findings.{and_then}
use Rattle.explain.proofs.Routes.{list_why}
use Rattle.explain.proofs.load_link_keys.Goals as goal

pub returns-in_err-check_at : goal.returns-in_err-check_at
unfolding and_then link_key_list link_key_rule
returns-in_err-check_at c = λ k e. rw (← list_why link_key_list _ _ c.list_fits.ensures _ c.count_octet-octet.ensures k) (grind arith)

pub returns : goal.returns
unfolding and_then link_key_list link_key_rule
returns c = λ k e. rw (← list_why link_key_list _ _ c.list_fits.ensures _ c.count_octet-octet.ensures k, e, ← c.link_keys.ensures) (grind arith)
