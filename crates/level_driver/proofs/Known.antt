-- The answer to a column is the answer to each column that is carried to it.
use Rattle.std.proofs.Common.{◌≡◌, ◌<◌, List, [], ◌∷◌, ◌++◌, Option, Some, None, ℕ, refl, sym, subst}
use Rattle.std.specs.Prelude.{IsSome, IsNone, IfSome}
use Rattle.std.specs.List.{Contains}
use Rattle.std.proofs.lemmas.List.Elements.{All-contains, All-push, All-same}
use Rattle.matroid_theory.specs.Rep.{Rep, count}
use Rattle.matroid_theory.specs.Move.{AreEquivalent}
use Rattle.matroid_theory.specs.Order.{IsForm}
use Rattle.matroid_theory.specs.Level.{followed_by}
use Rattle.matroid_laws.proofs.Equivalence.{equivalent-symmetric, equivalent-transitive}
use Rattle.symmetry.specs.Symmetric.{MovesOf}
use Rattle.level_driver.specs.declared.parent.Leader.{Leader}
use Rattle.level_driver.specs.Known.{ChildrenOf, IsAnswer, KeepsAnswers}
use Rattle.level_driver.specs.Forbidden.{Avoids}
use Rattle.level_driver.proofs.MinorsCarried.{avoids_over}

-- the parent followed by v is equivalent to the parent followed by u
pub answer_over : (c : ChildrenOf) (v u : List ℕ) → 0 < count c.parent →
    AreEquivalent c.mode (followed_by c.parent v) (followed_by c.parent u) → (child : Option Rep) → IsAnswer c u child → IsAnswer c v child
answer_over c v u some e None h = λ avoids. h (avoids_over c.mode (followed_by c.parent v) (followed_by c.parent u) e some c.forbidden avoids)
answer_over c v u some e (Some N) h = record {
  avoids = avoids_over c.mode (followed_by c.parent u) (followed_by c.parent v)
      (equivalent-symmetric c.mode (followed_by c.parent v) (followed_by c.parent u) e) some c.forbidden h.avoids;
  form = h.form;
  equivalent = equivalent-transitive c.mode (followed_by c.parent v) (followed_by c.parent u) N e h.equivalent;
}

-- a kept answer to a column that stands for v is the answer to v
pub kept_answer : (c : ChildrenOf) (moves : MovesOf) (leaders : List Leader) → KeepsAnswers c moves leaders → 0 < count c.parent →
    (l : Leader) → Contains leaders l → (v u : List ℕ)
    → AreEquivalent moves.mode (followed_by moves.parent v) (followed_by moves.parent u) → l.column.items ≡ u →
    (child : Option Rep) → child ≡ l.child → IsAnswer c v child
kept_answer c moves leaders h some l inside v u e same child is =
    subst (IsAnswer c v) (sym is) (answer_over c v l.column.items some
    (subst (λ (u : List ℕ). AreEquivalent c.mode (followed_by c.parent v) (followed_by c.parent u)) (sym same)
    (subst (λ (P : Rep). AreEquivalent c.mode (followed_by P v) (followed_by P u)) h.same_parent
    (subst (λ mode. AreEquivalent mode (followed_by moves.parent v) (followed_by moves.parent u)) h.same_mode e)))
    l.child (All-contains (λ (l : Leader). IsAnswer c l.column.items l.child) leaders l h.answers inside))

-- what an answer says, clause by clause
module _ (c : ChildrenOf) (v : List ℕ) where
  pub answer_none : (child : Option Rep) → IsAnswer c v child → IsNone child → ¬ (Avoids c.forbidden (followed_by c.parent v))
  answer_none None h n = h
  answer_none (Some N) h n = cc

  pub answer_avoids : (child : Option Rep) → IsAnswer c v child → IsSome child → Avoids c.forbidden (followed_by c.parent v)
  answer_avoids None h s = cc
  answer_avoids (Some N) h s = h.avoids

  pub answer_form : (child : Option Rep) → IsAnswer c v child → IfSome child (IsForm c.mode)
  answer_form None h = tt
  answer_form (Some N) h = h.form

  pub answer_equivalent : (child : Option Rep) → IsAnswer c v child → IfSome child (AreEquivalent c.mode (followed_by c.parent v))
  answer_equivalent None h = tt
  answer_equivalent (Some N) h = h.equivalent

  -- and the other way round
  pub answer_of : (child : Option Rep) → (IsNone child → ¬ (Avoids c.forbidden (followed_by c.parent v))) →
      (IsSome child → Avoids c.forbidden (followed_by c.parent v))
      → IfSome child (IsForm c.mode) → IfSome child (AreEquivalent c.mode (followed_by c.parent v)) → IsAnswer c v child
  answer_of None none avoids form equivalent = none refl
  answer_of (Some N) none avoids form equivalent = record { avoids = avoids refl; form = form; equivalent = equivalent }

-- one more answer
pub more_answers : (c : ChildrenOf) (moves : MovesOf) (leaders more : List Leader) (l : Leader) → KeepsAnswers c moves leaders →
    IsAnswer c l.column.items l.child → more ≡ leaders ++ l ∷ [] → KeepsAnswers c moves more
more_answers c moves leaders more l h answer is = record {
  same_parent = h.same_parent;
  same_mode = h.same_mode;
  answers = All-same (λ (l : Leader). IsAnswer c l.column.items l.child) more (leaders ++ l ∷ []) is
      (All-push (λ (l : Leader). IsAnswer c l.column.items l.child) leaders l h.answers answer);
}
