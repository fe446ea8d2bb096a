use Rattle.std.proofs.Common.{◌≡◌, map, take}
use Rattle.std.specs.Prelude.{IsUtf8}
use Rattle.std.specs.List.{AllByRecursion}
use Rattle.th_input.specs.Listing.{names_on, bytes_of}
use Rattle.th_input.proofs.listing.names_on.Given as goal

-- the lines so far are UTF-8, and their names are these
abbrev pub invariant-loop-line : goal.invariant-loop-line
invariant-loop-line l =
    record {
      names : map (λ n. n.now) l.names.items ≡ names_on (map (λ x. x.now) (take l.line-index l.lines));
      good : AllByRecursion IsUtf8 (map (λ x. x.now) (take l.line-index l.lines));
      begins : l.at ≡ bytes_of (map (λ x. x.now) (take l.line-index l.lines));
    }
