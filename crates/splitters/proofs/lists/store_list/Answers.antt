-- `splitters::lists::store_list` meets its contract: the length and the entries behind it are the splitter's row. Assumes nothing.
use mathlib.Core.Path.{◌∙◌}
use native.Mathlib.Omega.{arith}
use Rattle.splitters.proofs.Stores.{list_stored, list_kept}
use Rattle.splitters.proofs.lists.store_list.Goals as goal

pub returns-then-id-ns : goal.returns-then-id-ns
returns-then-id-ns c =
    c.put_entries.ensures ∙ list_stored _ _ _ _ _ c.u32_at-id.ensures c.if-id-ns.true (omega arith) (omega arith)

pub returns-else-id-ns : goal.returns-else-id-ns
returns-else-id-ns c = list_kept _ _ _ _ _ c.u32_at-id.ensures (omega arith)
