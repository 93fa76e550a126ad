use Rattle.std.proofs.Common.{◌≡◌, ◌∙◌, refl, arith, rules}
use Rattle.cds_desk.specs.Serve.{IsVisited, Visit, served}
use Rattle.cds_desk.specs.Serving.{lasting}
use Rattle.cds_desk.proofs.ServeLaws.{ends_told, had_memory, rose_from_none, stays_none, visit_passes}
use Rattle.cds_desk.proofs.desk.Desk.serve_next.Goals as goal

pub returns-in-NoMemory-clause-takes : goal.returns-in-NoMemory-clause-takes
returns-in-NoMemory-clause-takes g c =
    let before = g.D.Door.told c.args.door.now in
    let taken = c.in-Ok.ensures in
    let ended = c.serve_connection-ended.ensures in
    let closed = c.close.ensures in
    let v : Visit = record {
      ended = c.serve_connection-ended.result;
      source = g.D.In.Source.told c.in-Ok.input;
      sink = g.D.Out.Sink.told c.in-Ok.output;
      source_closed = g.D.In.Source.told c.serve_connection-ended.new.source;
      sink_closed = g.D.Out.Sink.told c.serve_connection-ended.new.sink;
    } in (
      v,
      record {
        serves = record {
          ends = ended.ends;
          failed_read = λ other. stays_none _ _ taken.no_source_fault (ended.failed_read other);
          source_failed = λ is. rose_from_none _ _ taken.no_source_fault (ended.source_failed is);
          failed_write = λ other. stays_none _ _ taken.no_sink_fault (ended.failed_write other);
          sink_failed = λ is. rose_from_none _ _ taken.no_sink_fault (ended.sink_failed is);
        };
        passes = visit_passes before.connections (g.D.Door.told c.next.new.self).connections (g.D.Door.told c.close.new.self).connections v _ _
            taken.gives taken.tells_given taken.tells_written taken.takes closed.closes (ends_told _ _ _ _ _ ended.ends) refl refl;
        pairs = omega (arith, closed.one_less, taken.one_more);
        faults = closed.faults_stay ∙ taken.kept;
      },
      c.in-NoMemory.is,
    )

pub returns-in-Done : goal.returns-in-Done
returns-in-Done g c =
    let before = g.D.Door.told c.args.door.now in
    let taken = c.in-Ok.ensures in
    let ended = c.serve_connection-ended.ensures in
    let closed = c.close.ensures in
    let v : Visit = record {
      ended = c.serve_connection-ended.result;
      source = g.D.In.Source.told c.in-Ok.input;
      sink = g.D.Out.Sink.told c.in-Ok.output;
      source_closed = g.D.In.Source.told c.serve_connection-ended.new.source;
      sink_closed = g.D.Out.Sink.told c.serve_connection-ended.new.sink;
    } in
    record {
      takes = (
        v,
        record {
          serves = record {
            ends = ended.ends;
            failed_read = λ other. stays_none _ _ taken.no_source_fault (ended.failed_read other);
            source_failed = λ is. rose_from_none _ _ taken.no_source_fault (ended.source_failed is);
            failed_write = λ other. stays_none _ _ taken.no_sink_fault (ended.failed_write other);
            sink_failed = λ is. rose_from_none _ _ taken.no_sink_fault (ended.sink_failed is);
          };
          passes = visit_passes before.connections (g.D.Door.told c.next.new.self).connections (g.D.Door.told c.close.new.self).connections v _ _
              taken.gives taken.tells_given taken.tells_written taken.takes closed.closes (ends_told _ _ _ _ _ ended.ends) refl refl;
          pairs = omega (arith, closed.one_less, taken.one_more);
          faults = closed.faults_stay ∙ taken.kept;
        },
        had_memory c.serve_connection-ended.result c.in-Done.is,
      );
      finds = ended.finds;
      stays_open = ended.stays_open;
      counts = (ended.keeper_counts, omega (arith, closed.faults_stay, taken.counts));
    }
