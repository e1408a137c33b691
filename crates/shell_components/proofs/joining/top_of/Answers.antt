use Rattle.std.proofs.Common.{◌<◌, arith, sym, length}
use Rattle.shell_components.specs.Trees.{AreRehung}
use Rattle.shell_components.proofs.Joined.{rehung_on, way_on, way_joined}
use Rattle.shell_components.proofs.joining.top_of.Goals as goal

pub ways-preserved : goal.ways-preserved
ways-preserved c =
    let inside : c.ways.at < length c.ways.labels.items = omega (arith, c.ways.invariant.low, c.requires.inside, c.ways.invariant.rehung.each) in
    let in_all : c.ways.at < length c.args.labels.now.items = omega (arith, inside, c.ways.invariant.rehung.each) in
    let rehung : AreRehung c.args.labels.now.items c.climb-at.new.labels.items =
    rehung_on c.args.labels.now.items c.ways.labels.items c.climb-at.new.labels.items c.ways.invariant.rehung c.climb-at.ensures.rehung in
    record {
      rehung = rehung;
      tops = λ y top. c.climb-at.ensures.tops y (c.ways.invariant.tops y top);
      low = omega (arith, c.climb-at.ensures.low, c.climb-at.ensures.lower, c.ways.invariant.low);
      one_tree = way_on c.ways.labels.items c.climb-at.new.labels.items c.args.x c.ways.at c.climb-at.result c.climb-at.ensures.rehung c.climb-at.ensures.set
          inside c.ways.invariant.one_tree;
      joined = λ pairs h. way_joined pairs c.ways.labels.items c.climb-at.new.labels.items (length c.args.labels.now.items) c.args.x c.ways.at
          c.climb-at.result (rehung.labels pairs h) c.climb-at.ensures.set in_all (sym c.ways.invariant.rehung.each) (c.ways.invariant.joined pairs h);
    }
