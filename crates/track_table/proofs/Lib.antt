mod Counted
pub mod Feeds
mod Filters
mod Freezes
mod Highest
mod HowMany
mod KeyOrder
mod Newest
mod Orders
mod Places
mod Proper
mod Puts
mod Ranked
mod Same
mod TableRows
mod Within
