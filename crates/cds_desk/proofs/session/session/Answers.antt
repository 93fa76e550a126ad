use Rattle.std.proofs.Common.{◌≡◌, ◌∙◌, sym, ap, refl, arith, rules}
use Rattle.cds_desk.specs.Session.{status_of}
use Rattle.cds_desk.proofs.SessionLaws.{is_unserved, never_both, no_step_after, opened_is_whole, unserved_after, unserved_anyway}
use Rattle.cds_desk.proofs.SessionLaws.{not_for_words, unserved_for_memory, source_failed, sink_failed, memory_wanting, done_is_whole}
use Rattle.cds_desk.proofs.SessionLaws.{wanting_undamaged}
use Rattle.cds_desk.proofs.TurnLaws.{at_most}
use Rattle.cds_desk.proofs.session.session.Goals as goal

pub returns-in-Err-clause-ran : goal.returns-in-Err-clause-ran
returns-in-Err-clause-ran g c =
    let un = c.in-Err.ensures.unopened in
    let is = is_unserved _ un.ends in
    record {
      is_command = is.no_words;
      served = λ gone. absurd (never_both _ gone un.ends);
      unserved = λ _. record {
        unopened = un;
        stores_nothing = c.open_store.ensures.found;
        reads_nothing = refl;
        quiet = c.in-Err.ensures.quiet_else;
        counts = c.open_store.ensures.counts.0;
        no_step = c.open_store.ensures.no_step;
        asks_no_clock = refl;
      };
      damaged_only = unserved_anyway _ _ un.ends;
      failed_write = λ gone _. absurd (never_both _ gone un.ends);
      keeper_counts = c.open_store.ensures.counts.1;
    }

pub returns-in-Err-clause-ends : goal.returns-in-Err-clause-ends
returns-in-Err-clause-ends g c =
    let is = is_unserved _ c.in-Err.ensures.unopened.ends in
    record {
      failed_read = λ _. refl;
      source_failed = λ e. absurd (is.no_source e);
      sink_failed = λ e. absurd (is.no_sink e);
      done_failed_no_write = λ e. absurd (is.no_end e);
      no_memory_writes_nothing = λ e. c.in-Err.ensures.quiet_else (wanting_undamaged _ e);
      source_counts = omega arith;
      sink_counts = c.open_store.ensures.counts.2;
    }

pub returns-clause-ran : goal.returns-clause-ran
returns-clause-ran g c =
    let e = c.serve_connection-ended.result in
    let opened = c.in-Ok.ensures.opened in
    let quiet = c.in-Ok.ensures.quiet in
    let serving = c.serve_connection-ended.ensures in
    record {
      is_command = λ is. not_for_words e (sym c.status_of.ensures ∙ is);
      served = λ _. record {
        served = (
          e,
          c.status_of.ensures,
          record {
            keeper = g.K.Keeper.told c.open_store.new.keeper;
            state = c.in-Ok.desk;
            steps = c.open_store.new.steps;
            opened = opened;
            after = c.serve_connection-ended.new.self;
            ends = rw quiet at serving.ends;
          },
        );
        stays_open = serving.stays_open;
        finds_more = λ name. (serving.finds name).more (at_most _ _ (c.in-Ok.ensures.finds name));
        finds_exactly = λ same below name.
            (serving.finds name).exactly (same ∙ sym opened.loaded.faults) below (c.in-Ok.ensures.finds name);
      };
      unserved = λ is.
          let wanting = unserved_for_memory e (rw c.status_of.ensures at is) in
          let same = serving.no_memory wanting in
          record {
            unopened = unserved_after _ e _ _ _ _ _ _ _ _ _ c.status_of.ensures wanting (ap (λ k. g.K.Keeper.told k) same.3) opened;
            stores_nothing = ap (λ k. g.K.Keeper.finds k c.args.store.now) same.3 ∙ c.open_store.ensures.found;
            reads_nothing = same.1;
            quiet = λ _. same.2 ∙ quiet;
            counts = omega (arith, same.4, c.open_store.ensures.counts.0);
            no_step = no_step_after _ _ _ _ c.open_store.ensures.no_step same.4;
            asks_no_clock = same.5;
          };
      damaged_only = opened_is_whole _ _ _ _ _ _ c.status_of.result opened;
      failed_write = λ _ other. serving.failed_write (λ is. other (c.status_of.ensures ∙ ap status_of is))
          ∙ ap (λ s. (g.W.Sink.told s).faults) quiet;
      keeper_counts = omega (arith, c.open_store.ensures.counts.1, serving.keeper_counts);
    }

pub returns-clause-ends : goal.returns-clause-ends
returns-clause-ends g c =
    let e = c.serve_connection-ended.result in
    let how = c.status_of.ensures in
    let quiet = c.in-Ok.ensures.quiet in
    let serving = c.serve_connection-ended.ensures in
    record {
      failed_read = λ other. serving.failed_read (λ is. other (how ∙ ap status_of is));
      source_failed = λ is. serving.source_failed (source_failed e (sym how ∙ is));
      sink_failed = λ is. rw quiet at serving.sink_failed (sink_failed e (sym how ∙ is));
      done_failed_no_write = λ is. serving.failed_write (done_is_whole e (sym how ∙ is)) ∙ ap (λ s. (g.W.Sink.told s).faults) quiet;
      no_memory_writes_nothing = λ is. (serving.no_memory (memory_wanting e (sym how ∙ is))).2 ∙ quiet;
      source_counts = serving.source_counts;
      sink_counts = omega (arith, serving.sink_counts, c.open_store.ensures.counts.2);
    }
