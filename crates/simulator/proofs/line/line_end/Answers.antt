-- The place of the first line feed, and one more.
use Rattle.std.proofs.Common.{◌≡◌, ℕ, suc, ◌+◌, Bool, true, false, cond, List, [], ◌∷◌, Some}
use Rattle.std.proofs.Common.{None, Option, MatchOption, IsSomeAnd, option_map, eqb, rules, refl, ap, ◌∙◌, arith}
use borrow.Author.Tests.{tests}
use Rattle.std.specs.List.{position_from}
use Rattle.std.proofs.lemmas.Iterator.{YieldsList-from_slice}
use Rattle.std.proofs.lemmas.Iterator.Search.{position_from_yields_List}
use Rattle.std.proofs.lemmas.Iterator.Adapters.{position_from-zero}
use Rattle.simulator.specs.Lines.{line_end}
use Rattle.simulator.proofs.line.line_end.Goals as goal

next :
    {Gives : ℕ → ℕ → Type 0} → ((at n : ℕ) → Gives at n → n ≡ at + 1) → (place end : Option ℕ) →
    MatchOption place (end ≡ None) (λ at. IsSomeAnd end (Gives at)) → end ≡ option_map (λ at. at + 1) place
next one None end e = e
next one (Some at) None e = absurd e
next one (Some at) (Some n) e = ap Some (one at n e)

end_if :
    (found : Bool) (n : ℕ) (rest : Option ℕ) (end : Option ℕ) → option_map (λ at. at + 1) rest ≡ option_map (λ at. n + 1 + at) end →
    option_map (λ at. at + 1) (cond found (Some n) rest) ≡ option_map (λ at. n + at) (cond found (Some 1) (option_map suc end))
end_if true n rest end e = refl
end_if false n rest None e = e
end_if false n rest (Some m) e = e ∙ ap Some (omega arith)

end_is :
    (n : ℕ) (bytes : List ℕ) →
    option_map (λ at. at + 1) (position_from (λ b. eqb b 10) n bytes) ≡ option_map (λ at. n + at) (line_end bytes)
end_is n [] = refl
end_is n (b ∷ bytes) = end_if (eqb b 10) n _ _ (end_is (n + 1) bytes)

from_zero : (end : Option ℕ) → option_map (λ at. 0 + at) end ≡ end
from_zero None = refl
from_zero (Some n) = ap Some (omega arith)

pub returns-clause-end : goal.returns-clause-end
returns-clause-end c =
    let bytes = c.args.input.now in
    let place : c.position.result ≡ position_from (λ b. eqb b 10) 0 bytes =
    position_from_yields_List (λ b. eqb b 10) _ _ c.position.result c.position.ensures.ran
    (YieldsList-from_slice bytes c.iter.ensures.rest) (λ x b q k. search (rules, tests))
    ∙ position_from-zero (λ b. eqb b 10) bytes in
    next (λ at n gives. search (rules, tests)) _ _ c.map.ensures.cases
    ∙ ap (option_map (λ (at : ℕ). at + 1)) place
    ∙ end_is 0 bytes
    ∙ from_zero (line_end bytes)
