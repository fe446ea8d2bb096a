use Rattle.std.proofs.Common.{◌≡◌, ◌∙◌, sym, ap, ltb, true, false}
use Rattle.std.specs.Prelude.{◌||◌}
use Rattle.std.proofs.lemmas.Bool.{lt-ltb, le-ltb, or_left}
use Rattle.th_base.specs.IdSet.{has}
use Rattle.th_query.proofs.Below.{has_below}
use Rattle.th_query.proofs.sites.Sites.contains.Goals as goal

pub returns-then-site-self : goal.returns-then-site-self
returns-then-site-self c =
    let x = c.args.site in
    let below = c.self.inside.below in
    let more = c.self.inside.more in
    let inside : ltb x below ≡ true = lt-ltb x below c.if-site-self.true in
    inside ∙ sym (or_left (ltb x below) (has more x) inside) ∙ sym (has_below below more x) ∙ ap (λ xs. has xs x) c.self.view_is

pub returns-else-site-self : goal.returns-else-site-self
returns-else-site-self c =
    let x = c.args.site in
    let below = c.self.inside.below in
    let more = c.self.inside.more in
    let past : ltb x below ≡ false = le-ltb x below c.if-site-self.false in
    c.contains.ensures ∙ ap (λ b. b || has more x) (sym past) ∙ sym (has_below below more x) ∙ ap (λ xs. has xs x) c.self.view_is
