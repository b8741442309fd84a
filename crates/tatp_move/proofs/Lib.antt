mod RouteLaws
mod RangeLaws
