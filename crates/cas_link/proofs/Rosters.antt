-- The roster of objects' declarations, one after another.
use Rattle.std.proofs.Common.{◌≡◌, List, [], ◌∷◌, ◌++◌, refl, ap, ◌∙◌, append_assoc}
use Rattle.cas_settle.specs.Roster.{add_to_last}

-- an item at the end of the last list
last_added : {X : Type 0} (front : List (List X)) (unit : List X) (x : X) →
    add_to_last (front ++ unit ∷ []) x ≡ front ++ (unit ++ x ∷ []) ∷ []
last_added [] unit x = refl
last_added (f ∷ []) unit x = refl
last_added (f ∷ g ∷ front) unit x = ap (λ us. f ∷ us) (last_added (g ∷ front) unit x)

-- one more of the items that the last list has more than before
pub made_more : {X : Type 0} (units new front : List (List X)) (unit made : List X) (x : X) →
    units ≡ front ++ (unit ++ made) ∷ [] → new ≡ add_to_last units x → new ≡ front ++ (unit ++ (made ++ x ∷ [])) ∷ []
made_more units new front unit made x is added =
    added ∙ ap (λ us. add_to_last us x) is ∙ last_added front (unit ++ made) x
    ∙ ap (λ u. front ++ u ∷ []) (append_assoc unit made (x ∷ []))
