-- The task of one text and of two, step by step.
use Rattle.std.proofs.Common.{◌≡◌, ℕ, List, Some, None, Result, Ok}
use Rattle.plain_list.specs.Results.{◌>>=◌}
use Rattle.ppddl_model.specs.declared.refusal.TextRefusal.{TextRefusal}
use Rattle.ppddl_model.specs.declared.tree.Task.{Task}
use Rattle.ppddl_cursor.specs.Ahead.{Ahead}
use Rattle.ppddl_cursor.specs.Pieces.{end_of_text}
use Rattle.ppddl_cursor.specs.Reading.{Fails, Gives, all_at}
use Rattle.ppddl_reader.specs.declared.tasks.task_draft.TaskDraft.{TaskDraft}
use Rattle.ppddl_reader.specs.declared.tasks.task_draft.TaskDraft.TheVariants.{Empty}
use Rattle.ppddl_reader.specs.tasks.Texts.{definitions, lexed, finished, task_of}
use Rattle.ppddl_reader.proofs.lemmas.tasks.Refusals.{refused_on}

module _ (first : List ℕ) where
  pub one_lexed : (e : TextRefusal) → Fails e (lexed 1 first) → Fails e (task_of first None)
  unfolding task_of
  one_lexed e refuses = refused_on e (lexed 1 first) (λ h. all_at (definitions Empty) h >>= λ s. finished s (end_of_text first 1)) refuses

  pub one_read : (e : TextRefusal) (h : Ahead) → lexed 1 first ≡ Ok h → Fails e (all_at (definitions Empty) h) → Fails e (task_of first None)
  unfolding task_of
  one_read e h lexed_is refuses = rw lexed_is (refused_on e (all_at (definitions Empty) h) (λ s. finished s (end_of_text first 1)) refuses)

  pub one_finished : (answer : Result Task TextRefusal) (h : Ahead) (s : TaskDraft) → lexed 1 first ≡ Ok h → all_at (definitions Empty) h ≡ Ok s
      → Gives (λ t. t) answer (finished s (end_of_text first 1)) → Gives (λ t. t) answer (task_of first None)
  unfolding task_of
  one_finished answer h s lexed_is read_is gives = rw (lexed_is, read_is) gives

module _ (first second : List ℕ) where
  pub two_lexed : (e : TextRefusal) → Fails e (lexed 1 first) → Fails e (task_of first (Some second))
  unfolding task_of
  two_lexed e refuses =
      refused_on e (lexed 1 first) (λ h. lexed 2 second >>= λ k. all_at (definitions Empty) h >>= λ s. all_at (definitions s) k >>= λ t. finished t (end_of_text second 2)) refuses

  module _ (h : Ahead) (lexed_is : lexed 1 first ≡ Ok h) where
    pub second_lexed : (e : TextRefusal) → Fails e (lexed 2 second) → Fails e (task_of first (Some second))
    unfolding task_of
    second_lexed e refuses =
        rw lexed_is (refused_on e (lexed 2 second) (λ k. all_at (definitions Empty) h >>= λ s. all_at (definitions s) k >>= λ t. finished t (end_of_text second 2)) refuses)

    module _ (k : Ahead) (second_is : lexed 2 second ≡ Ok k) where
      pub two_read : (e : TextRefusal) → Fails e (all_at (definitions Empty) h) → Fails e (task_of first (Some second))
      unfolding task_of
      two_read e refuses =
          rw (lexed_is, second_is) (refused_on e (all_at (definitions Empty) h) (λ s. all_at (definitions s) k >>= λ t. finished t (end_of_text second 2)) refuses)

      module _ (s : TaskDraft) (read_is : all_at (definitions Empty) h ≡ Ok s) where
        pub second_read : (e : TextRefusal) → Fails e (all_at (definitions s) k) → Fails e (task_of first (Some second))
        unfolding task_of
        second_read e refuses = rw (lexed_is, second_is, read_is) (refused_on e (all_at (definitions s) k) (λ t. finished t (end_of_text second 2)) refuses)

        pub two_finished : (answer : Result Task TextRefusal) (t : TaskDraft) → all_at (definitions s) k ≡ Ok t
            → Gives (λ x. x) answer (finished t (end_of_text second 2)) → Gives (λ x. x) answer (task_of first (Some second))
        unfolding task_of
        two_finished answer t second_read_is gives = rw (lexed_is, second_is, read_is, second_read_is) gives
