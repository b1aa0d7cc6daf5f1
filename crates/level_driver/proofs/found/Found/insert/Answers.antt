use Rattle.std.proofs.Common.{◌≡◌, List, ℕ, sym, subst}
use Rattle.form_key.specs.Packing.{packing}
use Rattle.level_driver.specs.Children.{Adds}
use Rattle.level_driver.proofs.KeyLemmas.{adds}
use Rattle.level_driver.proofs.found.Found.insert.Goals as goal

pub returns : goal.returns
returns c =
    let old : List (List ℕ) = c.self.inside.keys.keys in
    let e : old ≡ c.args.self.now = c.self.view_is in
    subst (λ (old : List (List ℕ)). Adds old c.insert.new.self.keys (packing c.args.form.now)) e
    (subst (λ (key : List ℕ). Adds old c.insert.new.self.keys key) c.in_ok-pack.ensures.key
    (subst (λ (keys : List (List ℕ)). Adds old keys c.in_ok-pack.field-0) (sym c.in_ok-insert.ensures.keys) (adds old c.in_ok-pack.field-0)))
