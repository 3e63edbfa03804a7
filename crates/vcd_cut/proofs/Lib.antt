mod TokenRuns
mod LaneRuns
mod Cutting
mod Standings
