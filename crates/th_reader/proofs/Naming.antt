-- The attributes of a name, as a search meets them.
use Rattle.std.proofs.Common.{◌≡◌, ℕ, ◌+◌, ◌<◌, true, List, ◌∷◌, length, drop, get_or, refl, sym, ap, ◌∙◌, add-one}
use Rattle.std.proofs.Math.Seq.{drop-cons}
use Rattle.th_syntax.specs.ClassBytes.{Pool}
use Rattle.th_syntax.specs.ClassBytes as file
use Rattle.th_syntax.specs.Checks.{is_text, attributes_named}
use Rattle.th_reader.specs.declared.layout.RawAttribute.{RawAttribute}
use Rattle.th_reader.specs.RawView.{attribute_view, attributes_view}

named_at : (pool : Pool) (name : List ℕ) (xs : List RawAttribute) (i : ℕ) (d : RawAttribute) → i < length xs → is_text pool (get_or xs i d).name.value name ≡ true
    → attributes_named pool name (attributes_view (drop i xs)) ≡ attribute_view (get_or xs i d) ∷ attributes_named pool name (attributes_view (drop (i + 1) xs))
named_at pool name xs i d lt test = rw (add-one, drop-cons xs i d lt, test) refl

pub named_found : (pool : Pool) (name : List ℕ) (xs : List RawAttribute) (i : ℕ) (x : RawAttribute) → i < length xs → x ≡ get_or xs i x → is_text pool x.name.value name ≡ true
    → attributes_named pool name (attributes_view (drop i xs)) ≡ attribute_view x ∷ attributes_named pool name (attributes_view (drop (i + 1) xs))
named_found pool name xs i x lt is test =
    named_at pool name xs i x lt (ap (λ (y : RawAttribute). is_text pool y.name.value name) (sym is) ∙ test)
    ∙ ap (λ (y : RawAttribute). let all : List file.Attribute = attribute_view y ∷ attributes_named pool name (attributes_view (drop (i + 1) xs)) in all) (sym is)
