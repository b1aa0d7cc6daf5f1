use Rattle.std.proofs.Common.{sym, ◌∙◌}
use Rattle.base_iso.proofs.Searches.{search_finds}
use Rattle.base_iso.proofs.carried.stands_in.Goals as goal

pub returns : goal.returns
returns c =
    let s = search_finds c.args.sets.now c.args.set c.binary_search.result c.requires c.binary_search.ensures.position in
    (λ t. s.0 (sym c.is_ok.ensures.value ∙ t), λ h. c.is_ok.ensures.value ∙ s.1 h)
